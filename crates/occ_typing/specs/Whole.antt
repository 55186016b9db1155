-- When the typed tree of a unit is whole: of each line it is known what it is, with all expressions and elements that it
-- carries, and of each name that comes into scope by it what it stands for.
use Rattle.std.specs.Prelude.{Option, Some, None, List, [], ◌∷◌}
use Rattle.occ_scope.specs.declared.meaning.ScopeEntry.{ScopeEntry}
use Rattle.occ_typing_lines.specs.Using.{entries_of}
use Rattle.occ_typing_lines.specs.declared.tree.TypedForm.{TypedForm}
use Rattle.occ_typing_lines.specs.declared.tree.TypedForm.TheVariants as t
use Rattle.occ_typing_lines.specs.declared.using.Import.{Import}
use Rattle.occ_typing.specs.declared.tree.TypedLine.{TypedLine, out-TypedLine}
use Rattle.occ_types.specs.declared.interface.Interface.{Interface}
use Rattle.occ_typing.specs.Known.{AreKnownEntries, IsKnownProcedure}
use Rattle.occ_typing.specs.WholeTrees.{AllAre, AreWholeActuals, AreWholeExprs, IsWholeElement, IsWholeExpr, IsWholeGuard, IsWholeInput, IsWholeOutput, IsWholeReplicator, IsWholeTarget}

-- of all that a unit shows it is known what it stands for
abbrev pub IsKnownInterface : Interface → Type 0
IsKnownInterface i = AreKnownEntries (entries_of i.exports)

-- what a line is: all that it carries is whole, and so are the names that it neither enters nor adds, which are the formals of
-- a function of one line. An instance is one of a procedure
abbrev pub IsWholeForm : TypedForm → Type 0
IsWholeForm t.Unknown = ⊥
IsWholeForm (t.Abbreviation el) = IsWholeElement el
IsWholeForm (t.Retyped el) = IsWholeElement el
IsWholeForm (t.Value e) = IsWholeExpr e
IsWholeForm (t.RetypedValue e) = IsWholeExpr e
IsWholeForm (t.OneLineFunction formals results) = AreKnownEntries formals × AreWholeExprs results
IsWholeForm (t.Uses shown) = AllAre IsKnownInterface shown
IsWholeForm (t.Assignment targets values) = AllAre IsWholeElement targets × AreWholeExprs values
IsWholeForm (t.Output channel outputs) = IsWholeElement channel × AllAre IsWholeOutput outputs
IsWholeForm (t.Input x) = IsWholeInput x
IsWholeForm (t.Instance callee actuals) = IsKnownProcedure callee.meaning × AreWholeActuals actuals
IsWholeForm (t.Block kind (Some by)) = IsWholeReplicator by
IsWholeForm (t.While e) = IsWholeExpr e
IsWholeForm (t.Selection e) = IsWholeExpr e
IsWholeForm (t.CaseInput channel) = IsWholeElement channel
IsWholeForm (t.Condition e) = IsWholeExpr e
IsWholeForm (t.Options es) = AreWholeExprs es
IsWholeForm (t.Guard e g) = IsWholeExpr e × IsWholeGuard g
IsWholeForm (t.Variant place tag targets) = AllAre IsWholeTarget targets
IsWholeForm (t.Results es) = AreWholeExprs es
IsWholeForm _ = Unit {0}

abbrev pub AreKnownAdds : Option (List ScopeEntry) → Type 0
AreKnownAdds None = Unit {0}
AreKnownAdds (Some xs) = AreKnownEntries xs

-- a line: what it is, is whole, and it is known what comes into scope under it and after it
abbrev pub IsWholeLine : TypedLine → Type 0
IsWholeLine l = IsWholeForm (out-TypedLine l).form × AreKnownEntries (out-TypedLine l).enters × AreKnownAdds (out-TypedLine l).adds

-- lines, and all that stand under them
pub data AreWhole : List TypedLine → Type 0 where
  no_line : AreWhole []
  one_line : (l : TypedLine) (following : List TypedLine) → IsWholeLine l → AreWhole (out-TypedLine l).under → AreWhole following → AreWhole (l ∷ following)

abbrev pub AreKnownImports : List Import → Type 0
AreKnownImports [] = Unit {0}
AreKnownImports (i ∷ is) = IsKnownInterface i.interface × AreKnownImports is
