-- The bytes of each form of a type, and sums and products of sizes that are cut at a bound.
use Rattle.std.proofs.Common.{◌≡◌, ◌≤◌, ◌+◌, ◌*◌, ℕ, suc, zero, min, List, [], ◌∷◌, map, Option, Some, None, refl, ap, sym, ◌∙◌, arith, inl, inr}
use Rattle.std.proofs.lemmas.Bool.{cases_lt}
use Rattle.occ_types.specs.declared.types.Item.TheOpen.{OccType-F}
use Rattle.occ_types.specs.declared.types.Item.TheFolds.{fold-Field, fold-roll-OccType, fold-roll-Field}
use Rattle.occ_types.specs.declared.types.OccType.{OccType}
use Rattle.occ_types.specs.declared.types.OccType.TheVariants as t
use Rattle.occ_types.specs.declared.types.Packing.{Packing}
use Rattle.occ_types.specs.declared.types.Protocol.{Protocol}
use Rattle.occ_types.specs.declared.types.Field.{Field, out-Field}
use Rattle.occ_types.specs.declared.types.Item.TheViews.{roll-out-Field}
use Rattle.occ_types.specs.declared.value.Primitive.{Primitive}
use Rattle.occ_types.specs.Size.{type_step, field_step, size_of, field_size, field_sizes, primitive_size, product_of, total_of, sum_of, cut, capped}

U : Type 0
U = Unit {0}

pub size_primitive : (primitive : Primitive) → size_of (t.Primitive primitive) ≡ Some (primitive_size primitive)
size_primitive primitive = ap size_of (sym (t.rolls-Primitive primitive)) ∙ fold-roll-OccType (Unit {0}) (Option ℕ) (Unit {0}) (Option ℕ) (Unit {0}) (λ _. tt) type_step (λ _. tt) field_step (λ _. tt) (OccType-F.Primitive primitive)

pub size_array : (n : Option ℕ) (inner : OccType) → size_of (t.Array n inner) ≡ product_of n (size_of inner)
size_array n inner = ap size_of (sym (t.rolls-Array n inner)) ∙ fold-roll-OccType (Unit {0}) (Option ℕ) (Unit {0}) (Option ℕ) (Unit {0}) (λ _. tt) type_step (λ _. tt) field_step (λ _. tt) (OccType-F.Array n inner)

pub size_named : (name : List ℕ) (inner : OccType) → size_of (t.Named name inner) ≡ size_of inner
size_named name inner = ap size_of (sym (t.rolls-Named name inner)) ∙ fold-roll-OccType (Unit {0}) (Option ℕ) (Unit {0}) (Option ℕ) (Unit {0}) (λ _. tt) type_step (λ _. tt) field_step (λ _. tt) (OccType-F.Named name inner)

pub size_channel : (carried : Protocol) → size_of (t.Channel carried) ≡ None
size_channel carried = ap size_of (sym (t.rolls-Channel carried)) ∙ fold-roll-OccType (Unit {0}) (Option ℕ) (Unit {0}) (Option ℕ) (Unit {0}) (λ _. tt) type_step (λ _. tt) field_step (λ _. tt) (OccType-F.Channel carried)

pub size_timer : size_of t.Timer ≡ None
size_timer = ap size_of (sym t.rolls-Timer) ∙ fold-roll-OccType (Unit {0}) (Option ℕ) (Unit {0}) (Option ℕ) (Unit {0}) (λ _. tt) type_step (λ _. tt) field_step (λ _. tt) OccType-F.Timer

pub size_unknown : size_of t.Unknown ≡ None
size_unknown = ap size_of (sym t.rolls-Unknown) ∙ fold-roll-OccType (Unit {0}) (Option ℕ) (Unit {0}) (Option ℕ) (Unit {0}) (λ _. tt) type_step (λ _. tt) field_step (λ _. tt) OccType-F.Unknown

fold_field : Field → Option ℕ
fold_field = fold-Field (Unit {0}) (Option ℕ) (Unit {0}) (Option ℕ) (Unit {0}) (λ _. tt) type_step (λ _. tt) field_step (λ _. tt)

field_folds : (f : Field) → fold-Field (Unit {0}) (Option ℕ) (Unit {0}) (Option ℕ) (Unit {0}) (λ _. tt) type_step (λ _. tt) field_step (λ _. tt) f ≡ field_size f
field_folds f = ap (fold-Field (Unit {0}) (Option ℕ) (Unit {0}) (Option ℕ) (Unit {0}) (λ _. tt) type_step (λ _. tt) field_step (λ _. tt)) (sym (roll-out-Field f)) ∙ fold-roll-Field (Unit {0}) (Option ℕ) (Unit {0}) (Option ℕ) (Unit {0}) (λ _. tt) type_step (λ _. tt) field_step (λ _. tt) (out-Field f)

fields_fold : (fs : List Field) → map (fold-Field (Unit {0}) (Option ℕ) (Unit {0}) (Option ℕ) (Unit {0}) (λ _. tt) type_step (λ _. tt) field_step (λ _. tt)) fs ≡ field_sizes fs
fields_fold [] = refl
fields_fold (f ∷ fs) = ap (λ (x : Option ℕ). x ∷ map (fold-Field (Unit {0}) (Option ℕ) (Unit {0}) (Option ℕ) (Unit {0}) (λ _. tt) type_step (λ _. tt) field_step (λ _. tt)) fs) (field_folds f) ∙ ap (λ (xs : List (Option ℕ)). field_size f ∷ xs) (fields_fold fs)

pub size_record : (packing : Packing) (fields : List Field) → size_of (t.Record packing fields) ≡ total_of (field_sizes fields)
size_record packing fields = ap size_of (sym (t.rolls-Record packing fields)) ∙ fold-roll-OccType (Unit {0}) (Option ℕ) (Unit {0}) (Option ℕ) (Unit {0}) (λ _. tt) type_step (λ _. tt) field_step (λ _. tt) (OccType-F.Record packing fields) ∙ ap total_of (fields_fold fields)

cut_product_at : (n s l : ℕ) → min (n * min s l) l ≡ min (n * s) l
cut_product_at zero s l = omega arith
cut_product_at (suc n) s l =
    elim (cases_lt s l) [
      | inl h ↦ let e : min s l ≡ s = omega arith in ap (λ (x : ℕ). min (suc n * x) l) e
      | inr h ↦
          let e : min s l ≡ l = omega arith in
          let a : l ≤ suc n * l = omega arith in
          let b : s ≤ suc n * s = omega arith in
          ap (λ (x : ℕ). min (suc n * x) l) e ∙ (omega arith)
    ]

pub cut_product : (n : Option ℕ) (s : Option ℕ) → capped (product_of n (capped s)) ≡ capped (product_of n s)
cut_product None s = refl
cut_product (Some n) None = refl
cut_product (Some n) (Some s) = ap Some (cut_product_at n s 2147483648)

pub cut_sum : (a b : ℕ) → cut (cut a + cut b) ≡ cut (a + b)
cut_sum a b = omega arith

-- one more size is added
pub cut_step : (total e : ℕ) (s r : Option ℕ) → Some e ≡ capped s → capped (sum_of (Some (cut (total + e))) r) ≡ capped (sum_of (Some total) (sum_of s r))
cut_step total e None r h = absurd cc
cut_step total e (Some x) None h = refl
cut_step total e (Some x) (Some y) h = let e' : e ≡ cut x = cc in ap Some (omega arith)

pub cut_none : (total : ℕ) (s r : Option ℕ) → None ≡ capped s → capped (sum_of (Some total) (sum_of s r)) ≡ None
cut_none total None r h = refl
cut_none total (Some x) r h = absurd cc

-- what the walks over a type need
pub ruleset size_rules = (size_primitive, size_array, size_named, size_channel, size_timer, size_unknown, size_record, cut_product, cut_step, cut_none)
