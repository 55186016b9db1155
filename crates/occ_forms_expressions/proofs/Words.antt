-- What may follow an operand begins none, word by word and symbol by symbol.
use Rattle.std.proofs.Common.{◌≡◌, ◌⊎◌, ◌||◌, inl, inr, refl, true, List, [], ◌∷◌}
use Rattle.occ_lines.specs.declared.token.Token.{Token}
use Rattle.occ_lines.specs.declared.token.Token.TheVariants as t
use Rattle.occ_lines.specs.declared.token.Symbol.{Symbol}
use Rattle.occ_lines.specs.declared.token.Symbol.TheVariants as s
use Rattle.occ_lines.specs.declared.token.Word.{Word}
use Rattle.occ_lines.specs.declared.token.Word.TheVariants as w
use Rattle.occ_forms_expressions.specs.declared.begin.Begin.{Begin}
use Rattle.occ_forms_expressions.specs.declared.begin.Begin.TheVariants as be
use Rattle.occ_forms_expressions.specs.declared.tree.Operand.{Operand}
use Rattle.occ_forms_expressions.specs.Reading.{IsAfter, IsNotCounted, begin_of, begin_symbol, begin_word, is_dyadic_symbol, is_dyadic_word, is_end_symbol, is_end_word}
use Rattle.occ_forms_expressions.specs.Spelling.{operand_then}
use Rattle.occ_forms_expressions.proofs.Begins.{begun, operand_begins}

-- nothing begins here, or a monadic operator, which may be dyadic too
abbrev pub BeginsNone : Begin → Type 0
BeginsNone b = (b ≡ be.Nothing) ⊎ (b ≡ be.Monadic)

word_after : (x : Word) → (is_end_word x || is_dyadic_word x) ≡ true → BeginsNone (begin_word x)
word_after w.After e = inl refl
word_after w.Alt e = absurd cc
word_after w.And e = inl refl
word_after w.Any e = absurd cc
word_after w.Asm e = absurd cc
word_after w.At e = absurd cc
word_after w.BitAnd e = inl refl
word_after w.BitNot e = absurd cc
word_after w.BitOr e = inl refl
word_after w.Bool e = absurd cc
word_after w.Byte e = absurd cc
word_after w.BytesIn e = absurd cc
word_after w.Case e = absurd cc
word_after w.Chan e = absurd cc
word_after w.Data e = absurd cc
word_after w.Else e = absurd cc
word_after w.False e = absurd cc
word_after w.For e = inl refl
word_after w.From e = inl refl
word_after w.Function e = absurd cc
word_after w.Guy e = absurd cc
word_after w.If e = absurd cc
word_after w.Inline e = absurd cc
word_after w.Int e = absurd cc
word_after w.Int16 e = absurd cc
word_after w.Int32 e = absurd cc
word_after w.Int64 e = absurd cc
word_after w.Is e = absurd cc
word_after w.Minus e = inr refl
word_after w.MostNeg e = absurd cc
word_after w.MostPos e = absurd cc
word_after w.Not e = absurd cc
word_after w.Of e = absurd cc
word_after w.OffsetOf e = absurd cc
word_after w.Or e = inl refl
word_after w.Packed e = absurd cc
word_after w.Par e = absurd cc
word_after w.Place e = absurd cc
word_after w.Placed e = absurd cc
word_after w.Plus e = inl refl
word_after w.Port e = absurd cc
word_after w.Pri e = absurd cc
word_after w.Proc e = absurd cc
word_after w.Processor e = absurd cc
word_after w.Protocol e = absurd cc
word_after w.Real32 e = absurd cc
word_after w.Real64 e = absurd cc
word_after w.Record e = absurd cc
word_after w.Rem e = inl refl
word_after w.Reshapes e = absurd cc
word_after w.Result e = absurd cc
word_after w.Retypes e = absurd cc
word_after w.Round e = absurd cc
word_after w.Seq e = absurd cc
word_after w.Size e = absurd cc
word_after w.Skip e = absurd cc
word_after w.Stop e = absurd cc
word_after w.Timer e = absurd cc
word_after w.Times e = inl refl
word_after w.True e = absurd cc
word_after w.Trunc e = absurd cc
word_after w.Type e = absurd cc
word_after w.Val e = absurd cc
word_after w.ValOf e = absurd cc
word_after w.VecSpace e = absurd cc
word_after w.While e = absurd cc
word_after w.Workspace e = absurd cc

symbol_after : (x : Symbol) → (is_end_symbol x || is_dyadic_symbol x) ≡ true → BeginsNone (begin_symbol x)
symbol_after s.Assign e = inl refl
symbol_after s.Counted e = inl refl
symbol_after s.AtMost e = inl refl
symbol_after s.AtLeast e = inl refl
symbol_after s.Unequal e = inl refl
symbol_after s.BitXor e = inl refl
symbol_after s.ShiftLeft e = inl refl
symbol_after s.ShiftRight e = inl refl
symbol_after s.BitAnd e = inl refl
symbol_after s.BitOr e = inl refl
symbol_after s.Plus e = inl refl
symbol_after s.Minus e = inr refl
symbol_after s.Times e = inl refl
symbol_after s.Divide e = inl refl
symbol_after s.Remainder e = inl refl
symbol_after s.BitNot e = absurd cc
symbol_after s.Equal e = inl refl
symbol_after s.Less e = inl refl
symbol_after s.Greater e = inl refl
symbol_after s.Open e = absurd cc
symbol_after s.Close e = inl refl
symbol_after s.OpenIndex e = absurd cc
symbol_after s.CloseIndex e = inl refl
symbol_after s.Comma e = inl refl
symbol_after s.Semicolon e = inl refl
symbol_after s.Colon e = inl refl
symbol_after s.Input e = inl refl
symbol_after s.Output e = inl refl
symbol_after s.Ampersand e = inl refl

pub after_begins : (k : List Token) → IsAfter k → BeginsNone (begin_of k)
after_begins [] after = inl refl
after_begins (t.Symbol x ∷ k) after = symbol_after x after
after_begins (t.Word x ∷ k) after = word_after x after
after_begins (t.Name n ∷ k) after = absurd cc
after_begins (t.Decimal n ∷ k) after = absurd cc
after_begins (t.Hexadecimal n ∷ k) after = absurd cc
after_begins (t.Character n ∷ k) after = absurd cc
after_begins (t.String n ∷ k) after = absurd cc

-- where something begins no `::` stands
pub begun_no_counted : (k : List Token) → begun k ≡ true → IsNotCounted k
begun_no_counted [] e = refl
begun_no_counted (t.Word x ∷ k) e = refl
begun_no_counted (t.Name n ∷ k) e = refl
begun_no_counted (t.Decimal n ∷ k) e = refl
begun_no_counted (t.Hexadecimal n ∷ k) e = refl
begun_no_counted (t.Character n ∷ k) e = refl
begun_no_counted (t.String n ∷ k) e = refl
begun_no_counted (t.Symbol s.Assign ∷ k) e = refl
begun_no_counted (t.Symbol s.Counted ∷ k) e = absurd cc
begun_no_counted (t.Symbol s.AtMost ∷ k) e = refl
begun_no_counted (t.Symbol s.AtLeast ∷ k) e = refl
begun_no_counted (t.Symbol s.Unequal ∷ k) e = refl
begun_no_counted (t.Symbol s.BitXor ∷ k) e = refl
begun_no_counted (t.Symbol s.ShiftLeft ∷ k) e = refl
begun_no_counted (t.Symbol s.ShiftRight ∷ k) e = refl
begun_no_counted (t.Symbol s.BitAnd ∷ k) e = refl
begun_no_counted (t.Symbol s.BitOr ∷ k) e = refl
begun_no_counted (t.Symbol s.Plus ∷ k) e = refl
begun_no_counted (t.Symbol s.Minus ∷ k) e = refl
begun_no_counted (t.Symbol s.Times ∷ k) e = refl
begun_no_counted (t.Symbol s.Divide ∷ k) e = refl
begun_no_counted (t.Symbol s.Remainder ∷ k) e = refl
begun_no_counted (t.Symbol s.BitNot ∷ k) e = refl
begun_no_counted (t.Symbol s.Equal ∷ k) e = refl
begun_no_counted (t.Symbol s.Less ∷ k) e = refl
begun_no_counted (t.Symbol s.Greater ∷ k) e = refl
begun_no_counted (t.Symbol s.Open ∷ k) e = refl
begun_no_counted (t.Symbol s.Close ∷ k) e = refl
begun_no_counted (t.Symbol s.OpenIndex ∷ k) e = refl
begun_no_counted (t.Symbol s.CloseIndex ∷ k) e = refl
begun_no_counted (t.Symbol s.Comma ∷ k) e = refl
begun_no_counted (t.Symbol s.Semicolon ∷ k) e = refl
begun_no_counted (t.Symbol s.Colon ∷ k) e = refl
begun_no_counted (t.Symbol s.Input ∷ k) e = refl
begun_no_counted (t.Symbol s.Output ∷ k) e = refl
begun_no_counted (t.Symbol s.Ampersand ∷ k) e = refl

pub operand_no_counted : (o : Operand) (k : List Token) → IsNotCounted (operand_then o k)
operand_no_counted o k = begun_no_counted (operand_then o k) (operand_begins o k)
