-- PARs that can race, each by a run that has a race.
use Rattle.std.proofs.Common.{◌≡◌, ℕ, suc, true, arith, ap, sym, subst, ◌∙◌, refl, List, [], ◌∷◌, ◌++◌, Option, Some, None, inl, inr}
use Rattle.std.specs.Prelude.{ℤ, pos, int_le, int_lt, slice_get}
use Rattle.std.proofs.lemmas.Int.{ints}
use Rattle.occ_scope.specs.declared.meaning.ScopeEntry.{ScopeEntry}
use Rattle.occ_types.specs.declared.interface.UseKind.{UseKind}
use Rattle.occ_types.specs.declared.interface.UseKind.TheVariants as kind
use Rattle.occ_types.specs.declared.value.Value.{Value}
use Rattle.occ_typing.specs.declared.tree.TypedLine.{TypedLine, out-TypedLine}
use Rattle.occ_typing_operands.specs.declared.kind.Known.{Known}
use Rattle.occ_typing_rules.specs.declared.expr.Selector.{Selector}
use Rattle.occ_typing_rules.specs.declared.expr.Selector.TheOpen.{TypedActual-F, TypedExpr-F}
use Rattle.occ_typing_rules.specs.declared.expr.TypedActual.{TypedActual, out-TypedActual}
use Rattle.occ_types.specs.declared.value.Value.TheVariants as v
use Rattle.occ_typing_rules.specs.declared.expr.TypedElement.{TypedElement, out-TypedElement}
use Rattle.occ_typing_rules.specs.declared.expr.TypedExpr.{TypedExpr, out-TypedExpr}
use Rattle.occ_typing_statements.specs.declared.exchange_tree.TypedInput.TheVariants as input
use Rattle.occ_typing_statements.specs.declared.exchange_tree.TypedOutput.TheVariants as output
use Rattle.occ_typing_statements.specs.declared.replicator_tree.KnownReplicator.{KnownReplicator}
use Rattle.occ_running.specs.Memory.{At, Cell, ComponentOf, Has, InComponent, SegmentOf, Spot, Thread, To, Variable}
use Rattle.occ_running.specs.Running
use Rattle.occ_running.specs.Running.{Does, Gave, Stopped, found_of}
use Rattle.occ_running.specs.Runs.{Beside, Event, Occurs, Quiet, Race, Run, Then, Touch}
use Rattle.occ_running.specs.Scopes.{Element, Formal, Held, Scope, Stored, Thing}
use Rattle.occ_running.specs.Works.{Both, Call, Evaluate, ExprForm, Find, InTurn, IsNoted, Item, Main, Nothing, Piece, Pieces, Reach, Select, SelectorForm, Selects, Tells, Together, Under, actual_work, behind_line, bounds, evaluate, index_at, input_work, items_behind, items_of, or_else, process_plan, receive_all, replicator_of, rounds, send_all}
use Rattle.occ_sound.specs.Racing.{Assigns, AssignsComponent, CanRace, CopiesNothing, Inputs, IsEmptySegment, IsName, IsNumeral, IsParallel, IsReplicated, IsSequence, Loops, Outputs, Passes}
use Rattle.occ_sound.proofs.Lists.{get_more, no_more}

told_itself : (x : Option Value) → Tells (or_else x None) (or_else x None)
told_itself None = tt
told_itself (Some x) = refl

literal_runs : (d : Scope) (t : Thread) (e : TypedExpr) (k : Known) → out-TypedExpr e ≡ TypedExpr-F.Literal k → Does d t (Evaluate (out-TypedExpr e)) Quiet (Gave (Held (or_else k.value None) None ∷ []))
literal_runs d t e k h =
    subst (λ (f : ExprForm). Does d t (Evaluate f) Quiet (Gave (Held (or_else k.value None) None ∷ []))) (sym h)
    (Running.operation d t (TypedExpr-F.Literal k) [] Quiet [] (or_else k.value None) refl (Running.nothing d t) (told_itself k.value))

name_runs : (d : Scope) (t : Thread) (n : ℕ) (x : Thing) (at : Spot) (k : Option ℤ) (el : TypedElement) → slice_get d n ≡ Some x → found_of n x ≡ Some (Element at k) → (out-TypedElement el).referent.spec ≡ n → (out-TypedElement el).selectors ≡ []
    → Does d t (Find el) Quiet (Gave (Element at k ∷ []))
name_runs d t n x at k el h found name whole =
    Running.named d t el x (Element at k) Quiet (Gave (Element at k ∷ []))
    (subst (λ (m : ℕ). slice_get d m ≡ Some x) (sym name) h)
    (subst (λ (m : ℕ). found_of m x ≡ Some (Element at k)) (sym name) found)
    (subst (λ (ss : List Selector). Does d t (Select ss (Element at k)) Quiet (Gave (Element at k ∷ []))) (sym whole) (Running.all_selected d t (Element at k)))

abbrev event_of : UseKind → Cell → Event
event_of k c = record { kind = k; cell = c; value = None }

abbrev write_of : Cell → Event
write_of c = event_of kind.Write c

abbrev reached_run : UseKind → Cell → Run
reached_run k c = Then (Then Quiet Quiet) (Then (Touch (event_of k c)) Quiet)

abbrev written_run : Cell → Run
written_run c = reached_run kind.Write c

reach_runs : (d : Scope) (t : Thread) (k : UseKind) (n : ℕ) (x : Thing) (at : Spot) (m : Option ℤ) (c : Cell) (el : TypedElement) → slice_get d n ≡ Some x → found_of n x ≡ Some (Element at m) → Has at c → (out-TypedElement el).referent.spec ≡ n
    → (out-TypedElement el).selectors ≡ [] → Does d t (Reach k (el ∷ [])) (reached_run k c) (Gave [])
reach_runs d t k n x at m c el h found has name whole =
    Running.reaches d t k (el ∷ []) (Then Quiet Quiet) (Then (Touch (event_of k c)) Quiet) (Element at m ∷ [])
    (Running.both d t (Find el) Nothing Quiet Quiet (Element at m ∷ []) [] (name_runs d t n x at m el h found name whole) (Running.nothing d t))
    (Running.one_more at m c None Quiet (inl refl) has Running.none)

abbrev assign_run : Cell → Run
assign_run c = Then (Then (Then Quiet Quiet) (written_run c)) Quiet

-- a name of an element with this cell
record Names (d : Scope) (n : ℕ) (c : Cell) : Type 0 where
  x : Thing
  at : Spot
  k : Option ℤ
  got : slice_get d n ≡ Some x
  found : found_of n x ≡ Some (Element at k)
  has : Has at c

assign_runs : (d : Scope) (t : Thread) (n : ℕ) (c : Cell) (l : TypedLine) (ls : List TypedLine) → Names d n c → Assigns n l → Does d t (Item Together (l ∷ ls)) (assign_run c) Stopped
assign_runs d t n c l ls m h =
    Running.main_line d t Together l ls (assign_run c) Stopped h.main
    (Running.main d t Together InTurn l (Both (evaluate (h.e ∷ [])) (Reach kind.Write (h.el ∷ []))) (Then (Then Quiet Quiet) (written_run c)) Quiet (Held (or_else h.known.value None) None ∷ []) Stopped (ap process_plan h.is)
    (Running.both d t (evaluate (h.e ∷ [])) (Reach kind.Write (h.el ∷ [])) (Then Quiet Quiet) (written_run c) (Held (or_else h.known.value None) None ∷ []) []
    (Running.both d t (Evaluate (out-TypedExpr h.e)) Nothing Quiet Quiet (Held (or_else h.known.value None) None ∷ []) [] (literal_runs d t h.e h.known h.literal) (Running.nothing d t))
    (reach_runs d t kind.Write n m.x m.at m.k c h.el m.got m.found m.has h.name h.whole))
    (Running.stops_before d t (Under InTurn l)))

assign_writes : (c : Cell) → Occurs (write_of c) (assign_run c)
assign_writes c = inl (inr (inr (inl refl)))

-- ---- three components

pieces_three : (a s c : TypedLine) → (out-TypedLine a).adds ≡ None → (out-TypedLine s).adds ≡ None → items_of (a ∷ s ∷ c ∷ []) ≡ (record { index = []; lines = a ∷ s ∷ c ∷ [] }) ∷ (record { index = []; lines = s ∷ c ∷ [] }) ∷ (record { index = []; lines = c ∷ [] }) ∷ items_behind (c ∷ [])
pieces_three a s c h k =
    ap (λ (o : Option (List ScopeEntry)). (record { index = []; lines = a ∷ s ∷ c ∷ [] }) ∷ behind_line o (s ∷ c ∷ []) (items_behind (s ∷ c ∷ []))) h
    ∙ ap (λ (o : Option (List ScopeEntry)). (record { index = []; lines = a ∷ s ∷ c ∷ [] }) ∷ (record { index = []; lines = s ∷ c ∷ [] }) ∷ behind_line o (c ∷ []) (items_behind (c ∷ []))) k

still_names : (d : Scope) (n : ℕ) (c : Cell) → Names d n c → Names (d ++ []) n c
still_names d n c m = record { x = m.x; at = m.at; k = m.k; got = get_more d [] n m.x m.got; found = m.found; has = m.has }

-- the first and the last of three have these runs, and events in them that race
three_race : (d : Scope) (t : Thread) (l a s c : TypedLine) (r q : Run) (e f : Event) → IsParallel l (a ∷ s ∷ c ∷ []) → (out-TypedLine a).adds ≡ None → (out-TypedLine s).adds ≡ None
    → Does (d ++ []) (t ++ InComponent 0 ∷ []) (Item Together (a ∷ s ∷ c ∷ [])) r Stopped → Does (d ++ []) (t ++ InComponent 2 ∷ []) (Item Together (c ∷ [])) q Stopped → Occurs e r → Occurs f q → Race e f → CanRace d t (Main InTurn l)
three_race d t l a s c r q e f par main none x y i j race =
    let one : Piece = record { index = []; lines = a ∷ s ∷ c ∷ [] } in
    let two : Piece = record { index = []; lines = s ∷ c ∷ [] } in
    let three : Piece = record { index = []; lines = c ∷ [] } in
    let run = Beside r (Beside Quiet (Beside q Quiet)) in
    record {
      run = Then Quiet run;
      outcome = Stopped;
      runs = Running.main d t InTurn Together l Nothing Quiet run [] Stopped (ap process_plan par.is) (Running.nothing d t)
          (Running.lines_under d t Together l run Stopped (ap replicator_of par.is) par.enters
          (subst (λ (ls : List TypedLine). Does d t (Pieces Together 0 (items_of ls)) run Stopped) (sym par.under)
          (subst (λ (ps : List Piece). Does d t (Pieces Together 0 ps) run Stopped) (sym (pieces_three a s c main none))
          (Running.beside d t 0 one (two ∷ three ∷ items_behind (c ∷ [])) r (Beside Quiet (Beside q Quiet)) Stopped Stopped x
          (Running.beside d t 1 two (three ∷ items_behind (c ∷ [])) Quiet (Beside q Quiet) Stopped Stopped (Running.stops_before (d ++ []) (t ++ InComponent 1 ∷ []) (Item Together (s ∷ c ∷ [])))
          (Running.beside d t 2 three (items_behind (c ∷ [])) q Quiet Stopped Stopped y (Running.stops_before d t (Pieces Together 3 (items_behind (c ∷ []))))))))));
      race = λ h. h.1.2 e f i (inr (inl j)) race;
    }

races : (d : Scope) (t : Thread) (n m : ℕ) (cell : Cell) (l a s c : TypedLine) → Names d n cell → Names d m cell → IsParallel l (a ∷ s ∷ c ∷ []) → Assigns n a → (out-TypedLine s).adds ≡ None → Assigns m c → CanRace d t (Main InTurn l)
races d t n m cell l a s c one two par first none last =
    three_race d t l a s c (assign_run cell) (assign_run cell) (write_of cell) (write_of cell) par first.main none (assign_runs (d ++ []) (t ++ InComponent 0 ∷ []) n cell a (s ∷ c ∷ []) (still_names d n cell one) first)
    (assign_runs (d ++ []) (t ++ InComponent 2 ∷ []) m cell c [] (still_names d m cell two) last) (assign_writes cell) (assign_writes cell) (refl, refl)

pub assigns_twice : (d : Scope) (t u : Thread) (n : ℕ) (l a s c : TypedLine) → slice_get d n ≡ Some (Stored u) → IsParallel l (a ∷ s ∷ c ∷ []) → Assigns n a → (out-TypedLine s).adds ≡ None → Assigns n c → CanRace d t (Main InTurn l)
assigns_twice d t u n l a s c at par first none last =
    let names : Names d n (record { root = n; thread = u; steps = [] }) = record { x = Stored u; at = Variable n u; k = None; got = at; found = refl; has = ([], refl) } in
    races d t n n (record { root = n; thread = u; steps = [] }) l a s c names names par first none last

pub assigns_aliases : (d : Scope) (t : Thread) (n m : ℕ) (at : Spot) (cell : Cell) (l a s c : TypedLine) → slice_get d n ≡ Some (Formal at) → slice_get d m ≡ Some (Formal at) → Has at cell → IsParallel l (a ∷ s ∷ c ∷ []) → Assigns n a → (out-TypedLine s).adds ≡ None
    → Assigns m c → CanRace d t (Main InTurn l)
assigns_aliases d t n m at cell l a s c one two has par first none last =
    races d t n m cell l a s c (record { x = Formal at; at = at; k = None; got = one; found = refl; has = has }) (record { x = Formal at; at = at; k = None; got = two; found = refl; has = has }) par first none last

-- ---- two components, one of which reads

two_pieces : (a c : TypedLine) → (out-TypedLine a).adds ≡ None → items_of (a ∷ c ∷ []) ≡ (record { index = []; lines = a ∷ c ∷ [] }) ∷ (record { index = []; lines = c ∷ [] }) ∷ items_behind (c ∷ [])
two_pieces a c h = ap (λ (o : Option (List ScopeEntry)). (record { index = []; lines = a ∷ c ∷ [] }) ∷ behind_line o (c ∷ []) (items_behind (c ∷ []))) h

two_race : (d : Scope) (t : Thread) (l a c : TypedLine) (r s : Run) (e f : Event) → IsParallel l (a ∷ c ∷ []) → (out-TypedLine a).adds ≡ None → Does (d ++ []) (t ++ InComponent 0 ∷ []) (Item Together (a ∷ c ∷ [])) r Stopped
    → Does (d ++ []) (t ++ InComponent 1 ∷ []) (Item Together (c ∷ [])) s Stopped → Occurs e r → Occurs f s → Race e f → CanRace d t (Main InTurn l)
two_race d t l a c r s e f par main x y i j race =
    let p : Piece = record { index = []; lines = a ∷ c ∷ [] } in
    let q : Piece = record { index = []; lines = c ∷ [] } in
    record {
      run = Then Quiet (Beside r (Beside s Quiet));
      outcome = Stopped;
      runs = Running.main d t InTurn Together l Nothing Quiet (Beside r (Beside s Quiet)) [] Stopped (ap process_plan par.is) (Running.nothing d t)
          (Running.lines_under d t Together l (Beside r (Beside s Quiet)) Stopped (ap replicator_of par.is) par.enters
          (subst (λ (ls : List TypedLine). Does d t (Pieces Together 0 (items_of ls)) (Beside r (Beside s Quiet)) Stopped) (sym par.under)
          (subst (λ (ps : List Piece). Does d t (Pieces Together 0 ps) (Beside r (Beside s Quiet)) Stopped) (sym (two_pieces a c main))
          (Running.beside d t 0 p (q ∷ items_behind (c ∷ [])) r (Beside s Quiet) Stopped Stopped x
          (Running.beside d t 1 q (items_behind (c ∷ [])) s Quiet Stopped Stopped y (Running.stops_before d t (Pieces Together 2 (items_behind (c ∷ [])))))))));
      race = λ h. h.1.2 e f i (inl j) race;
    }

abbrev own_cell : ℕ → Thread → Cell
own_cell n u = record { root = n; thread = u; steps = [] }

abbrev read_of : Cell → Option Value → Event
read_of c x = record { kind = kind.Read; cell = c; value = x }

abbrev read_run : Cell → Option Value → Run
read_run c x = Then Quiet (Then Quiet (Touch (read_of c x)))

read_runs : (d : Scope) (t u : Thread) (n : ℕ) (e : TypedExpr) (x : Option Value) → slice_get d n ≡ Some (Stored u) → IsName n e → Does d t (Evaluate (out-TypedExpr e)) (read_run (own_cell n u) x) (Gave (Held x None ∷ []))
read_runs d t u n e x at h =
    subst (λ (f : ExprForm). Does d t (Evaluate f) (read_run (own_cell n u) x) (Gave (Held x None ∷ []))) (sym h.is)
    (Running.read d t h.el Quiet Quiet (Variable n u) None (own_cell n u) x (name_runs d t n (Stored u) (Variable n u) None h.el at refl h.name h.whole) Running.none ([], refl) (subst (λ (o : Option Value). Tells o x) (sym h.unnoted) tt))

read_stops : (d : Scope) (t u : Thread) (n : ℕ) (e : TypedExpr) → slice_get d n ≡ Some (Stored u) → IsName n e → Does d t (Evaluate (out-TypedExpr e)) (read_run (own_cell n u) None) Stopped
read_stops d t u n e at h = Running.stops_after d t (Evaluate (out-TypedExpr e)) (read_run (own_cell n u) None) (Gave (Held None None ∷ [])) (read_runs d t u n e None at h)

loop_runs : (d : Scope) (t u : Thread) (n : ℕ) (l : TypedLine) (ls : List TypedLine) → slice_get d n ≡ Some (Stored u) → Loops n l → Does d t (Item Together (l ∷ ls)) (read_run (own_cell n u) None) Stopped
loop_runs d t u n l ls at h =
    Running.main_line d t Together l ls (read_run (own_cell n u) None) Stopped h.main (Running.condition_stops d t Together l h.e (read_run (own_cell n u) None) (inl h.is) (read_stops d t u n h.e at h.name))

pass_runs : (d : Scope) (t u : Thread) (n : ℕ) (l : TypedLine) (ls : List TypedLine) → slice_get d n ≡ Some (Stored u) → Passes n l → Does d t (Item Together (l ∷ ls)) (read_run (own_cell n u) None) Stopped
pass_runs d t u n l ls at h =
    Running.main_line d t Together l ls (read_run (own_cell n u) None) Stopped h.main
    (Running.main_stops d t Together InTurn l (Call h.callee.spec (h.actual ∷ [])) (read_run (own_cell n u) None) (ap process_plan h.is)
    (Running.actual_stops d t h.callee.spec (h.actual ∷ []) (read_run (own_cell n u) None)
    (Running.first_stops d t (actual_work (out-TypedActual h.actual)) Nothing (read_run (own_cell n u) None)
    (subst (λ (o : TypedActual-F Selector TypedActual TypedExpr TypedElement). Does d t (actual_work o) (read_run (own_cell n u) None) Stopped) (sym h.value) (read_stops d t u n h.e at h.name)))))

stored_names : (d : Scope) (n : ℕ) (u : Thread) → slice_get d n ≡ Some (Stored u) → Names d n (own_cell n u)
stored_names d n u at = record { x = Stored u; at = Variable n u; k = None; got = at; found = refl; has = ([], refl) }

pub loop_races : (d : Scope) (t u : Thread) (n : ℕ) (l a c : TypedLine) → slice_get d n ≡ Some (Stored u) → IsParallel l (a ∷ c ∷ []) → Loops n a → Assigns n c → CanRace d t (Main InTurn l)
loop_races d t u n l a c at par h k =
    let here : slice_get (d ++ []) n ≡ Some (Stored u) = get_more d [] n (Stored u) at in
    two_race d t l a c (read_run (own_cell n u) None) (assign_run (own_cell n u)) (read_of (own_cell n u) None) (write_of (own_cell n u)) par h.main (loop_runs (d ++ []) (t ++ InComponent 0 ∷ []) u n a (c ∷ []) here h)
    (assign_runs (d ++ []) (t ++ InComponent 1 ∷ []) n (own_cell n u) c [] (stored_names (d ++ []) n u here) k) (inr (inr refl)) (assign_writes (own_cell n u)) (refl, refl)

pub pass_races : (d : Scope) (t u : Thread) (n : ℕ) (l a c : TypedLine) → slice_get d n ≡ Some (Stored u) → IsParallel l (a ∷ c ∷ []) → Passes n a → Assigns n c → CanRace d t (Main InTurn l)
pass_races d t u n l a c at par h k =
    let here : slice_get (d ++ []) n ≡ Some (Stored u) = get_more d [] n (Stored u) at in
    two_race d t l a c (read_run (own_cell n u) None) (assign_run (own_cell n u)) (read_of (own_cell n u) None) (write_of (own_cell n u)) par h.main (pass_runs (d ++ []) (t ++ InComponent 0 ∷ []) u n a (c ∷ []) here h)
    (assign_runs (d ++ []) (t ++ InComponent 1 ∷ []) n (own_cell n u) c [] (stored_names (d ++ []) n u here) k) (inr (inr refl)) (assign_writes (own_cell n u)) (refl, refl)

-- ---- a subscript that is not known

abbrev part_cell : ℕ → Thread → ℤ → Cell
part_cell n u k = record { root = n; thread = u; steps = At k ∷ [] }

abbrev part_run : Run → Cell → Run
part_run r c = Then (Then (Then Quiet Quiet) (Then (Then (Then (Then r Quiet) Quiet) Quiet) (Then (Touch (write_of c)) Quiet))) Quiet

part_found : (d : Scope) (t u : Thread) (n : ℕ) (j : TypedExpr) (k : ℤ) (r : Run) (l : TypedLine) (h : AssignsComponent n j l) → slice_get d n ≡ Some (Stored u) → Does d t (Evaluate (out-TypedExpr j)) r (Gave (Held (Some (v.Int k)) None ∷ []))
    → Does d t (Find h.el) (Then (Then r Quiet) Quiet) (Gave (Element (ComponentOf (Variable n u) k) None ∷ []))
part_found d t u n j k r l h at x =
    Running.named d t h.el (Stored u) (Element (Variable n u) None) (Then (Then r Quiet) Quiet) (Gave (Element (ComponentOf (Variable n u) k) None ∷ []))
    (subst (λ (m : ℕ). slice_get d m ≡ Some (Stored u)) (sym h.name) at)
    (subst (λ (m : ℕ). found_of m (Stored u) ≡ Some (Element (Variable n u) None)) (sym h.name) refl)
    (subst (λ (ss : List Selector). Does d t (Select ss (Element (Variable n u) None)) (Then (Then r Quiet) Quiet) (Gave (Element (ComponentOf (Variable n u) k) None ∷ []))) (sym h.one)
    (Running.selects d t h.s [] (Element (Variable n u) None) (Element (ComponentOf (Variable n u) k) None) (Then r Quiet) Quiet (Held (Some (v.Int k)) None ∷ []) (Gave (Element (ComponentOf (Variable n u) k) None ∷ []))
    (subst (λ (f : SelectorForm). Does d t (evaluate (bounds f)) (Then r Quiet) (Gave (Held (Some (v.Int k)) None ∷ []))) (sym h.subscript)
    (Running.both d t (Evaluate (out-TypedExpr j)) Nothing r Quiet (Held (Some (v.Int k)) None ∷ []) [] x (Running.nothing d t)))
    (subst (λ (f : SelectorForm). Selects f (Held (Some (v.Int k)) None ∷ []) (Element (Variable n u) None) (Element (ComponentOf (Variable n u) k) None)) (sym h.subscript) (k, refl, refl))
    (Running.all_selected d t (Element (ComponentOf (Variable n u) k) None))))

part_runs : (d : Scope) (t u : Thread) (n : ℕ) (j : TypedExpr) (k : ℤ) (r : Run) (l : TypedLine) (ls : List TypedLine) → AssignsComponent n j l → slice_get d n ≡ Some (Stored u) → Does d t (Evaluate (out-TypedExpr j)) r (Gave (Held (Some (v.Int k)) None ∷ []))
    → Does d t (Item Together (l ∷ ls)) (part_run r (part_cell n u k)) Stopped
part_runs d t u n j k r l ls h at x =
    let at_part = ComponentOf (Variable n u) k in
    let cell = part_cell n u k in
    let touch = Then (Then (Then (Then r Quiet) Quiet) Quiet) (Then (Touch (write_of cell)) Quiet) in
    Running.main_line d t Together l ls (part_run r cell) Stopped h.main
    (Running.main d t Together InTurn l (Both (evaluate (h.e ∷ [])) (Reach kind.Write (h.el ∷ []))) (Then (Then Quiet Quiet) touch) Quiet (Held (or_else h.known.value None) None ∷ []) Stopped (ap process_plan h.is)
    (Running.both d t (evaluate (h.e ∷ [])) (Reach kind.Write (h.el ∷ [])) (Then Quiet Quiet) touch (Held (or_else h.known.value None) None ∷ []) []
    (Running.both d t (Evaluate (out-TypedExpr h.e)) Nothing Quiet Quiet (Held (or_else h.known.value None) None ∷ []) [] (literal_runs d t h.e h.known h.literal) (Running.nothing d t))
    (Running.reaches d t kind.Write (h.el ∷ []) (Then (Then (Then r Quiet) Quiet) Quiet) (Then (Touch (write_of cell)) Quiet) (Element at_part None ∷ [])
    (Running.both d t (Find h.el) Nothing (Then (Then r Quiet) Quiet) Quiet (Element at_part None ∷ []) [] (part_found d t u n j k r l h at x) (Running.nothing d t))
    (Running.one_more at_part None cell None Quiet (inl refl) ([], refl) Running.none)))
    (Running.stops_before d t (Under InTurn l)))

numeral_runs : (d : Scope) (t : Thread) (k : ℤ) (e : TypedExpr) → IsNumeral k e → Does d t (Evaluate (out-TypedExpr e)) Quiet (Gave (Held (Some (v.Int k)) None ∷ []))
numeral_runs d t k e h = subst (λ (o : Option Value). Does d t (Evaluate (out-TypedExpr e)) Quiet (Gave (Held (or_else o None) None ∷ []))) h.value (literal_runs d t e h.known h.is)

part_writes : (r : Run) (c : Cell) → Occurs (write_of c) (part_run r c)
part_writes r c = inl (inr (inr (inl refl)))

pub part_races : (d : Scope) (t u w : Thread) (n m : ℕ) (i j : TypedExpr) (k : ℤ) (l a c : TypedLine) → slice_get d n ≡ Some (Stored u) → slice_get d m ≡ Some (Stored w) → IsParallel l (a ∷ c ∷ []) → IsName m i → AssignsComponent n i a → IsNumeral k j
    → AssignsComponent n j c → CanRace d t (Main InTurn l)
part_races d t u w n m i j k l a c at index par name first numeral last =
    let here : slice_get (d ++ []) n ≡ Some (Stored u) = get_more d [] n (Stored u) at in
    let there : slice_get (d ++ []) m ≡ Some (Stored w) = get_more d [] m (Stored w) index in
    let cell = part_cell n u k in
    two_race d t l a c (part_run (read_run (own_cell m w) (Some (v.Int k))) cell) (part_run Quiet cell) (write_of cell) (write_of cell) par first.main
    (part_runs (d ++ []) (t ++ InComponent 0 ∷ []) u n i k (read_run (own_cell m w) (Some (v.Int k))) a (c ∷ []) first here (read_runs (d ++ []) (t ++ InComponent 0 ∷ []) w m i (Some (v.Int k)) there name))
    (part_runs (d ++ []) (t ++ InComponent 1 ∷ []) u n j k Quiet c [] last here (numeral_runs (d ++ []) (t ++ InComponent 1 ∷ []) k j numeral)) (part_writes (read_run (own_cell m w) (Some (v.Int k))) cell) (part_writes Quiet cell) (refl, refl)

-- ---- channels

abbrev output_run : Cell → Run
output_run c = Then (Then (Then Quiet Quiet) (reached_run kind.Output c)) Quiet

output_runs : (d : Scope) (t : Thread) (n : ℕ) (c : Cell) (l : TypedLine) (ls : List TypedLine) → Names d n c → Outputs n l → Does d t (Item Together (l ∷ ls)) (output_run c) Stopped
output_runs d t n c l ls m h =
    Running.main_line d t Together l ls (output_run c) Stopped h.main
    (Running.main d t Together InTurn l (Both (send_all (output.Value h.e ∷ [])) (Reach kind.Output (h.el ∷ []))) (Then (Then Quiet Quiet) (reached_run kind.Output c)) Quiet (Held (or_else h.known.value None) None ∷ []) Stopped (ap process_plan h.is)
    (Running.both d t (send_all (output.Value h.e ∷ [])) (Reach kind.Output (h.el ∷ [])) (Then Quiet Quiet) (reached_run kind.Output c) (Held (or_else h.known.value None) None ∷ []) []
    (Running.both d t (Evaluate (out-TypedExpr h.e)) Nothing Quiet Quiet (Held (or_else h.known.value None) None ∷ []) [] (literal_runs d t h.e h.known h.literal) (Running.nothing d t))
    (reach_runs d t kind.Output n m.x m.at m.k c h.el m.got m.found m.has h.name h.whole))
    (Running.stops_before d t (Under InTurn l)))

abbrev input_run : Cell → Run
input_run c = Then (reached_run kind.Input c) Quiet

input_runs : (d : Scope) (t : Thread) (n : ℕ) (c : Cell) (l : TypedLine) (ls : List TypedLine) → Names d n c → Inputs n l → Does d t (Item Together (l ∷ ls)) (input_run c) Stopped
input_runs d t n c l ls m h =
    Running.main_line d t Together l ls (input_run c) Stopped h.main
    (Running.main_stops d t Together InTurn l (input_work (input.Plain h.el h.targets)) (input_run c) (ap process_plan h.is)
    (Running.second_stops d t (Reach kind.Input (h.el ∷ [])) (receive_all h.targets) (reached_run kind.Input c) Quiet []
    (reach_runs d t kind.Input n m.x m.at m.k c h.el m.got m.found m.has h.name h.whole) (Running.stops_before d t (receive_all h.targets))))

pub output_races : (d : Scope) (t u : Thread) (n : ℕ) (l a s c : TypedLine) → slice_get d n ≡ Some (Stored u) → IsParallel l (a ∷ s ∷ c ∷ []) → Outputs n a → (out-TypedLine s).adds ≡ None → Outputs n c → CanRace d t (Main InTurn l)
output_races d t u n l a s c at par first none last =
    let cell = own_cell n u in
    let names = still_names d n cell (stored_names d n u at) in
    three_race d t l a s c (output_run cell) (output_run cell) (event_of kind.Output cell) (event_of kind.Output cell) par first.main none (output_runs (d ++ []) (t ++ InComponent 0 ∷ []) n cell a (s ∷ c ∷ []) names first)
    (output_runs (d ++ []) (t ++ InComponent 2 ∷ []) n cell c [] names last) (inl (inr (inr (inl refl)))) (inl (inr (inr (inl refl)))) (refl, refl)

pub input_races : (d : Scope) (t u : Thread) (n : ℕ) (l a s c : TypedLine) → slice_get d n ≡ Some (Stored u) → IsParallel l (a ∷ s ∷ c ∷ []) → Inputs n a → (out-TypedLine s).adds ≡ None → Inputs n c → CanRace d t (Main InTurn l)
input_races d t u n l a s c at par first none last =
    let cell = own_cell n u in
    let names = still_names d n cell (stored_names d n u at) in
    three_race d t l a s c (input_run cell) (input_run cell) (event_of kind.Input cell) (event_of kind.Input cell) par first.main none (input_runs (d ++ []) (t ++ InComponent 0 ∷ []) n cell a (s ∷ c ∷ []) names first)
    (input_runs (d ++ []) (t ++ InComponent 2 ∷ []) n cell c [] names last) (inl (inr (inl refl))) (inl (inr (inl refl))) (refl, refl)

-- ---- rounds

bounds_run : (d : Scope) (t : Thread) (l : TypedLine) (base : ℤ) (n : ℕ) (ls : List TypedLine) (h : IsReplicated l base n ls)
    → Does d t (evaluate (h.by.base ∷ h.by.count ∷ [])) (Then Quiet (Then Quiet Quiet)) (Gave (Held (Some (v.Int base)) None ∷ Held (Some (v.Int (pos n))) None ∷ []))
bounds_run d t l base n ls h =
    Running.both d t (Evaluate (out-TypedExpr h.by.base)) (evaluate (h.by.count ∷ [])) Quiet (Then Quiet Quiet) (Held (Some (v.Int base)) None ∷ []) (Held (Some (v.Int (pos n))) None ∷ []) (numeral_runs d t base h.by.base h.first)
    (Running.both d t (Evaluate (out-TypedExpr h.by.count)) Nothing Quiet Quiet (Held (Some (v.Int (pos n))) None ∷ []) [] (numeral_runs d t (pos n) h.by.count h.many) (Running.nothing d t))

is_noted : (l : TypedLine) (base : ℤ) (n : ℕ) (ls : List TypedLine) (h : IsReplicated l base n ls) → IsNoted Together h.by.known base n
is_noted l base n ls h = subst (λ (k : Option KnownReplicator). IsNoted Together k base n) (sym h.known) (sym h.known_base, sym h.known_count)

pub rounds_race : (d : Scope) (t u : Thread) (n m : ℕ) (base : ℤ) (l line : TypedLine) → slice_get d n ≡ Some (Stored u) → IsReplicated l base (suc (suc m)) (line ∷ []) → Assigns n line → CanRace d t (Main InTurn l)
rounds_race d t u n m base l line at par h =
    let cell = own_cell n u in
    let one : Piece = record { index = index_at base 0 ∷ []; lines = line ∷ [] } in
    let two : Piece = record { index = index_at base 1 ∷ []; lines = line ∷ [] } in
    let run = Beside (assign_run cell) (Beside (assign_run cell) Quiet) in
    let bounds_done = Then Quiet (Then Quiet Quiet) in
    record {
      run = Then Quiet (Then bounds_done run);
      outcome = Stopped;
      runs = Running.main d t InTurn Together l Nothing Quiet (Then bounds_done run) [] Stopped (ap process_plan par.is) (Running.nothing d t)
          (Running.replicates d t Together l par.by bounds_done run base (pos (suc (suc m))) None None Stopped (ap replicator_of par.is) par.enters (bounds_run d t l base (suc (suc m)) (line ∷ []) par) (is_noted l base (suc (suc m)) (line ∷ []) par)
          (subst (λ (ls : List TypedLine). Does d t (Pieces Together 0 (rounds (suc (suc m)) 0 base ls)) run Stopped) (sym par.under)
          (Running.beside d t 0 one (two ∷ rounds m 2 base (line ∷ [])) (assign_run cell) (Beside (assign_run cell) Quiet) Stopped Stopped
          (assign_runs (d ++ one.index) (t ++ InComponent 0 ∷ []) n cell line [] (stored_names (d ++ one.index) n u (get_more d one.index n (Stored u) at)) h)
          (Running.beside d t 1 two (rounds m 2 base (line ∷ [])) (assign_run cell) Quiet Stopped Stopped
          (assign_runs (d ++ two.index) (t ++ InComponent 1 ∷ []) n cell line [] (stored_names (d ++ two.index) n u (get_more d two.index n (Stored u) at)) h) (Running.stops_before d t (Pieces Together 2 (rounds m 2 base (line ∷ []))))))));
      race = λ g. g.1.1.2 (write_of cell) (write_of cell) (assign_writes cell) (inl (assign_writes cell)) (refl, refl);
    }

-- ---- empty segments

never_within : (k : ℤ) → int_le (pos 0) k ≡ true → int_lt k (pos 0) ≡ true → ⊥
never_within k h l = absurd (grind (arith, ints, h, l))

-- no cell is of it
bare : (el : Spot) (b : ℤ) (c : Cell) → Has (SegmentOf el b (pos 0)) c → ⊥
bare el b c ([], h) = h
bare el b c (To name ∷ steps, h) = h
bare el b c (At k ∷ steps, h) = never_within k h.0.0 h.0.1

tells_itself : (x : Option Value) → Tells x x
tells_itself None = tt
tells_itself (Some x) = refl

abbrev empty_part : ℕ → Thread → ℤ → Thing
empty_part n u k = Element (SegmentOf (Variable n u) k (pos 0)) (Some (pos 0))

abbrev found_run : Run
found_run = Then (Then Quiet (Then Quiet Quiet)) Quiet

empty_found : (d : Scope) (t u : Thread) (n : ℕ) (el : TypedElement) (h : IsEmptySegment n el) → slice_get d n ≡ Some (Stored u) → Does d t (Find el) found_run (Gave (empty_part n u h.k ∷ []))
empty_found d t u n el h at =
    let numbers = Held (Some (v.Int h.k)) None ∷ Held (Some (v.Int (pos 0))) None ∷ [] in
    Running.named d t el (Stored u) (Element (Variable n u) None) found_run (Gave (empty_part n u h.k ∷ []))
    (subst (λ (m : ℕ). slice_get d m ≡ Some (Stored u)) (sym h.name) at)
    (subst (λ (m : ℕ). found_of m (Stored u) ≡ Some (Element (Variable n u) None)) (sym h.name) refl)
    (subst (λ (ss : List Selector). Does d t (Select ss (Element (Variable n u) None)) found_run (Gave (empty_part n u h.k ∷ []))) (sym h.one)
    (Running.selects d t h.s [] (Element (Variable n u) None) (empty_part n u h.k) (Then Quiet (Then Quiet Quiet)) Quiet numbers (Gave (empty_part n u h.k ∷ []))
    (subst (λ (f : SelectorForm). Does d t (evaluate (bounds f)) (Then Quiet (Then Quiet Quiet)) (Gave numbers)) (sym h.is)
    (Running.both d t (Evaluate (out-TypedExpr h.base)) (evaluate (h.count ∷ [])) Quiet (Then Quiet Quiet) (Held (Some (v.Int h.k)) None ∷ []) (Held (Some (v.Int (pos 0))) None ∷ []) (numeral_runs d t h.k h.base h.from)
    (Running.both d t (Evaluate (out-TypedExpr h.count)) Nothing Quiet Quiet (Held (Some (v.Int (pos 0))) None ∷ []) [] (numeral_runs d t (pos 0) h.count h.none) (Running.nothing d t))))
    (subst (λ (f : SelectorForm). Selects f numbers (Element (Variable n u) None) (empty_part n u h.k)) (sym h.is) (h.k, pos 0, refl, refl, refl))
    (Running.all_selected d t (empty_part n u h.k))))

empty_read : (d : Scope) (t u : Thread) (n : ℕ) (e : TypedExpr) (el : TypedElement) (h : IsEmptySegment n el) → out-TypedExpr e ≡ TypedExpr-F.Element el → slice_get d n ≡ Some (Stored u)
    → Does d t (Evaluate (out-TypedExpr e)) found_run (Gave (Held (out-TypedElement el).known.value (Some (pos 0)) ∷ []))
empty_read d t u n e el h is at =
    let x = (out-TypedElement el).known.value in
    subst (λ (f : ExprForm). Does d t (Evaluate f) found_run (Gave (Held x (Some (pos 0)) ∷ []))) (sym is)
    (Running.read_nothing d t el found_run (SegmentOf (Variable n u) h.k (pos 0)) (Some (pos 0)) x (empty_found d t u n el h at) (bare (Variable n u) h.k) (tells_itself x))

-- where no lines stand under a line
nothing_under : (d : Scope) (t : Thread) (l : TypedLine) → replicator_of (out-TypedLine l).form ≡ None → (out-TypedLine l).enters ≡ [] → (out-TypedLine l).under ≡ [] → Does d t (Under InTurn l) (Then Quiet Quiet) (Gave [])
nothing_under d t l by enters under =
    Running.lines_under d t InTurn l (Then Quiet Quiet) (Gave []) by enters
    (subst (λ (ls : List TypedLine). Does d t (Pieces InTurn 0 (items_of ls)) (Then Quiet Quiet) (Gave [])) (sym under)
    (Running.goes_on d t InTurn 0 (record { index = []; lines = [] }) [] Quiet Quiet (Gave []) (Gave []) (Running.no_line (d ++ []) t InTurn) tt (Running.none_left d t InTurn 1)))

abbrev copied_run : Run
copied_run = Then (Then (Then found_run Quiet) (Then (Then found_run Quiet) Quiet)) (Then Quiet Quiet)

copies : (d : Scope) (t u w : Thread) (n m : ℕ) (l : TypedLine) (ls : List TypedLine) (h : CopiesNothing n m l) → slice_get d n ≡ Some (Stored u) → slice_get d m ≡ Some (Stored w) → Does d t (Item InTurn (l ∷ ls)) copied_run (Gave [])
copies d t u w n m l ls h to from =
    let held = Held (out-TypedElement h.from).known.value (Some (pos 0)) in
    let there = empty_part n u h.written.k in
    Running.main_line d t InTurn l ls copied_run (Gave []) h.main
    (Running.main d t InTurn InTurn l (Both (evaluate (h.e ∷ [])) (Reach kind.Write (h.to ∷ []))) (Then (Then found_run Quiet) (Then (Then found_run Quiet) Quiet)) (Then Quiet Quiet) (held ∷ []) (Gave []) (ap process_plan h.is)
    (Running.both d t (evaluate (h.e ∷ [])) (Reach kind.Write (h.to ∷ [])) (Then found_run Quiet) (Then (Then found_run Quiet) Quiet) (held ∷ []) []
    (Running.both d t (Evaluate (out-TypedExpr h.e)) Nothing found_run Quiet (held ∷ []) [] (empty_read d t w m h.e h.from h.read h.value from) (Running.nothing d t))
    (Running.reaches d t kind.Write (h.to ∷ []) (Then found_run Quiet) Quiet (there ∷ []) (Running.both d t (Find h.to) Nothing found_run Quiet (there ∷ []) [] (empty_found d t u n h.to h.written to) (Running.nothing d t)) Running.none))
    (nothing_under d t l (ap replicator_of h.is) h.enters h.under))

pub empty_races : (d : Scope) (t u w : Thread) (n m : ℕ) (l a c : TypedLine) → slice_get d n ≡ Some (Stored u) → slice_get d m ≡ Some (Stored w) → IsSequence l (a ∷ c ∷ []) → CopiesNothing n m a → (out-TypedLine c).adds ≡ None → CanRace d t (Main InTurn c)
    → CanRace d t (Main InTurn l)
empty_races d t u w n m l a c to from seq first main last =
    let p : Piece = record { index = []; lines = a ∷ c ∷ [] } in
    let q : Piece = record { index = []; lines = c ∷ [] } in
    let run = Then copied_run last.run in
    let stopped : Does (d ++ []) t (Main InTurn c) last.run Stopped = subst (λ (e : Scope). Does e t (Main InTurn c) last.run Stopped) (sym (no_more d)) (Running.stops_after d t (Main InTurn c) last.run last.outcome last.runs) in
    record {
      run = Then Quiet run;
      outcome = Stopped;
      runs = Running.main d t InTurn InTurn l Nothing Quiet run [] Stopped (ap process_plan seq.is) (Running.nothing d t)
          (Running.lines_under d t InTurn l run Stopped (ap replicator_of seq.is) seq.enters
          (subst (λ (ls : List TypedLine). Does d t (Pieces InTurn 0 (items_of ls)) run Stopped) (sym seq.under)
          (subst (λ (ps : List Piece). Does d t (Pieces InTurn 0 ps) run Stopped) (sym (two_pieces a c first.main))
          (Running.goes_on d t InTurn 0 p (q ∷ items_behind (c ∷ [])) copied_run last.run (Gave []) Stopped (copies (d ++ []) t u w n m a (c ∷ []) first (get_more d [] n (Stored u) to) (get_more d [] m (Stored w) from)) tt
          (Running.ends_there d t InTurn 1 q (items_behind (c ∷ [])) last.run Stopped (Running.main_line (d ++ []) t InTurn c [] last.run Stopped main stopped) tt)))));
      race = λ h. last.race h.1.1;
    }
