-- What is told nests three times.
use Rattle.std.proofs.Common.{◌≡◌, ◌≤◌, ℕ, max, zero, suc, String, List, [], ◌∷◌, ◌∙◌, Global, Vec, ap, arith, length, map, refl, take}
use Rattle.std.proofs.Math.Nat.{max-le}
use Rattle.serde_json.specs.Data.{array, depth, items_depth}
use Rattle.serde_json.specs.View.{items_of, view}
use Rattle.serde_json.specs.declared.value.Value.{Value, Array}
use Rattle.serde_json.proofs.Views.{view-Array}
use Rattle.occ_messages_formats.specs.Written.{message_data, message_items, text_data, text_items}
use Rattle.occ_messages.specs.declared.message.Message.{Message}

pub view_messages : (v : Vec Value Global) (rs : List Message) → map view v.items ≡ map message_data rs → view (Array v) ≡ array (message_items rs)
view_messages v rs e = view-Array v ∙ ap (λ ds. array (items_of ds)) e

taken_all : {X : Type 0} (xs : List X) (n : ℕ) → length xs ≤ n → take n xs ≡ xs
taken_all [] zero h = refl
taken_all [] (suc n) h = refl
taken_all (x ∷ xs) zero h = absurd (omega (arith, h))
taken_all (x ∷ xs) (suc n) h = ap (λ ts. x ∷ ts) (taken_all xs n (omega (arith, h)))

pub view_messages_taken : (v : Vec Value Global) (rs : List Message) (n : ℕ) → length rs ≤ n → map view v.items ≡ map message_data (take n rs) → view (Array v) ≡ array (message_items rs)
view_messages_taken v rs n h e = view_messages v rs (e ∙ ap (λ ts. map message_data ts) (taken_all rs n h))

pub view_texts_taken : (v : Vec Value Global) (ts : List (String Global)) (n : ℕ) → length ts ≤ n → map view v.items ≡ map text_data (take n ts) → view (Array v) ≡ array (text_items ts)
view_texts_taken v ts n h e = view-Array v ∙ ap (λ ds. array (items_of ds)) (e ∙ ap (λ us. map text_data us) (taken_all ts n h))

flat : (ts : List (String Global)) → items_depth (text_items ts) ≤ 0
flat [] = omega arith
flat (t ∷ ts) = max-le (omega arith) (flat ts)

below : (n : ℕ) → n ≤ 0 → max (suc n) 0 ≤ 1
below n h = max-le {a = suc n} {b = 0} (omega (arith, h)) (omega arith)

of_message : (r : Message) → depth (message_data r) ≤ 2
of_message r = omega (arith, below (items_depth (text_items r.hints.items)) (flat r.hints.items))

shallow : (rs : List Message) → items_depth (message_items rs) ≤ 2
shallow [] = omega arith
shallow (r ∷ rs) = max-le (of_message r) (shallow rs)

pub messages_depth : (rs : List Message) → depth (array (message_items rs)) ≤ 127
messages_depth rs = omega (arith, shallow rs)
