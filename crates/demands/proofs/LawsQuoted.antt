-- What an accepted quote does to the resting orders, in 02's words (W2), side by side: who crosses the away quote is set at the Locking
-- Price behind all who stand there, or is cancelled, and is told; who does not cross stands as before. Assumes nothing.
use Prim.Native.Nat.{ℕ, ◌+◌, ◌<◌}
use mathlib.Core.Bool.{Bool, true, false, true≢false}
use mathlib.Core.List.{List, [], ◌∷◌, ◌++◌}
use mathlib.Core.Logic.{⊎_elim}
use mathlib.Core.Path.{◌≡◌, refl, sym, ap, subst, ◌∙◌}
use lib.Dec.{eqb}
use lib.ListN.{length}
use native.Mathlib.Omega.{arith}
use borrow.Author.Tests.{eq-eqb}
use Rattle.basics.specs.Lists.{gathered, All, OneOf, first}
use Rattle.basics.proofs.LawsChoice.{holds_or_not}
use Rattle.basics.proofs.LawsLists.{all_alike, one_of_all, in_front_lem, behind, gathered_has}
use Rattle.kinds.specs.declared.HalfCents.{HalfCents}
use Rattle.kinds.specs.declared.Number.{Number}
use Rattle.rules.specs.declared.Away.{Away}
use Rattle.rules.specs.declared.Body.TheVariants as body
use Rattle.rules.specs.declared.Event.{Event}
use Rattle.rules.specs.declared.Event.TheVariants.{Moved}
use Rattle.rules.specs.CommandLines.{Reading}
use Rattle.rules.specs.declared.Resting.{Resting}
use Rattle.rules.specs.Book.{Book, stamp, earlier, ranks_before, sound}
use Rattle.rules.specs.CommandLines.{command_in}
use Rattle.rules.specs.Commands.{quote_fate}
use Rattle.rules.specs.Day.{printed}
use Rattle.rules.specs.declared.Fate.{Fate}
use Rattle.rules.specs.Settling.{set_at, stamped_as, told_by, set_anew, told, settled_side, first_move}
use Rattle.rules.specs.Step.{answer_to}
use Rattle.rules.specs.Working.{locking_price}
use Rattle.rules.proofs.LawsCommands.{quote_fate_lem, set_stays, quote_does}
use Rattle.rules.proofs.LawsRank.{earlier_command, earlier_place}
use Rattle.soundness.proofs.LawsSettled.{set_place, settled_are, settled_stays, settled_sets}
use Rattle.soundness.proofs.LawsSides.{InRange, Sides, sides_flip, sides_of}
use Rattle.soundness.proofs.LawsSound.{sound_is}
use Rattle.demands.specs.Once.{acts, command_number}
use Rattle.demands.specs.Quoted.{Crosses, SetAnew, Stood, as_before, Quoted, Writes, empty, of_none, of_moved, of_cancelled, WritesBoth}
use Rattle.demands.specs.Told.{events_in}
use Rattle.demands.proofs.LawsCrossing.{locking_is, would_cross_lem, not_crossing, crosses_hidden, QuoteSays, quote_says, left_alone, set_anew_lem, gone_back, set_place_rises}
use Rattle.demands.proofs.LawsLinesTell.{opposite_once, stands_before}
use Rattle.demands.proofs.LawsOnce.{next_acts}
use Rattle.demands.proofs.LawsOrigins.{same_order_lem}
use Rattle.demands.proofs.LawsRun.{accepted_does}
use Rattle.demands.proofs.LawsTold.{line_told}
use Rattle.std.specs.Prelude.{Some, None}

-- ── Who stands there afterwards ──

-- an order of a side as a quote of command n sets it anew, at its place among the moves from k on
abbrev moved_to : Number → ℕ → Bool → Away → {h : Resting} {s : List Resting} → OneOf h s → Resting
moved_to n k buy away {h = h} p = stamped_as (stamp n (set_place (quote_fate away buy) k p)) (set_at (locking_price buy away) h)

-- an order of the side afterwards: one that stays, or one that is set anew
data Put (n : Number) (k : ℕ) (buy : Bool) (away : Away) (s : List Resting) : Resting → Type 0 where
  remains : {h : Resting} → OneOf h s → (Crosses away h buy → ⊥) → Put n k buy away s h
  is_moved : {h : Resting} (p : OneOf h s) → Crosses away h buy → h.back ≡ false → Put n k buy away s (moved_to n k buy away p)

-- nobody else is put there
all_put : (n : Number) (k : ℕ) (buy : Bool) (away : Away) (s : List Resting) → All (Put n k buy away s) (settled_side n k buy (quote_fate away buy) s)
all_put n k buy away s =
    settled_are (quote_fate away buy) n k buy s (λ h p e. remains p (subst (QuoteSays buy away h) e (quote_says buy away h)))
    (λ h new p e.
    let (crosses, b, is) = subst (QuoteSays buy away h) e (quote_says buy away h) in
    subst (λ (x : Resting). Put n k buy away s (stamped_as (stamp n (set_place (quote_fate away buy) k p)) x)) is (is_moved p crosses b))

-- ── One side ──

-- a non-displayed order ranks behind whoever has its price and an earlier stamp
ranks_behind : (buy : Bool) (x y : Resting) → x.price ≡ y.price → y.displayed ≡ false
    → earlier x.stamp y.stamp ≡ true → ranks_before buy x y ≡ true
unfolding ranks_before
ranks_behind buy x y same hidden before =
    let one : eqb x.price.0 y.price.0 ≡ true = eq-eqb x.price.0 y.price.0 (ap (λ (p : HalfCents). p.0) same) in
    ⊎_elim
    (λ (t : x.displayed ≡ true). rw (one, hidden, t) refl)
    (λ (t : x.displayed ≡ false). rw (one, hidden, t) before)
    (holds_or_not x.displayed)

-- the order that the rules set anew is set anew in 02's words
is_anew_lem : (n : Number) (k : ℕ) (buy : Bool) (away : Away) {h : Resting} {s : List Resting} (p : OneOf h s) → SetAnew buy n away h (moved_to n k buy away p)
is_anew_lem n k buy away p = record {
  price = sym (locking_is buy away);
  stamp = refl;
  number = refl;
  shares = refl;
  displayed = refl;
  back = refl;
  reserve = refl;
  floor = refl;
  minimum = refl;
}

-- a side of a sound book, and a command whose number is above the last
module _ (buy : Bool) (n : Number) (k : ℕ) (away : Away) {last : Number} {s opposite : List Resting}
    (sides : Sides buy last s opposite) (above : last.0 < n.0) where
  -- an order of the side that is set anew, at its place
  record SetTo (h x : Resting) : Type 0 where
    from : OneOf h s
    not_back : h.back ≡ false
    stamped : x.stamp ≡ (moved_to n k buy away from).stamp

  -- two orders of one number are one
  same_number : {g h : Resting} → OneOf g s → OneOf h s → g.number ≡ h.number → g ≡ h
  same_number p q e = same_order_lem (opposite_once (sides_flip buy sides)) p q (ap (λ (m : Number). m.0) e)

  -- who stands there with the number of one that crosses is that one, set anew
  number_set : {h x : Resting} → OneOf h s → Crosses away h buy → x.number ≡ h.number → Put n k buy away s x → SetTo h x
  number_set p crosses e (remains q alone) = absurd (subst (λ (g : Resting). Crosses away g buy → ⊥) (same_number q p e) alone crosses)
  number_set p crosses e (is_moved q also b) =
      subst (λ (h : Resting). SetTo h (moved_to n k buy away q)) (same_number q p e) (record { from = q; not_back = b; stamped = refl })

  -- whoever stands there was put there
  put_at : {x : Resting} → OneOf x (settled_side n k buy (quote_fate away buy) s) → Put n k buy away s x
  put_at p = one_of_all (all_put n k buy away s) p

  -- .. and so stood there before, or was set anew
  put_stood : (h : Resting) → Put n k buy away s h → Stood buy n away s h
  put_stood h (remains p alone) = as_before p alone
  put_stood h (is_moved {h = g} p crosses b) = Stood.set_anew g p crosses b (is_anew_lem n k buy away p)

  -- all that 02 says of a side, of any events that have its lines
  quoted_side : (es : List Event) → ((e : Event) → OneOf e (told (quote_fate away buy) s) → OneOf e es)
      → Quoted buy n away s (settled_side n k buy (quote_fate away buy) s) es
  unfolding told
  quoted_side es tells = record {
    stays = λ h p not. settled_stays (quote_fate away buy) n k buy p (left_alone buy away h not);
    moves = λ h p crosses b. record {
      anew = moved_to n k buy away p;
      is_anew = is_anew_lem n k buy away p;
      there = settled_sets (quote_fate away buy) n k buy p (set_at (locking_price buy away) h) (set_anew_lem crosses b);
    };
    told = λ h p crosses b. rw (locking_is buy away) (tells _ (gathered_has lines p (rw (set_anew_lem crosses b) first)));
    goes = λ h p crosses b. all_alike (λ x put e. true≢false (sym b ∙ (number_set p crosses e put).not_back)) (all_put n k buy away s);
    cancelled = λ h p crosses b. tells _ (gathered_has lines p (rw (gone_back crosses b) first));
    none_else = λ h p. put_stood h (put_at p);
    keep_order = λ g h g' h' p q crosses also_crosses r is_g there is_h also_there.
        let a = number_set p crosses is_g.number (put_at there) in
        let b = number_set q also_crosses is_h.number (put_at also_there) in
        let stands = stands_before buy sides.own_ranked a.from b.from r in
        let rises = set_place_rises (quote_fate away buy) k a.from b.from (set_anew_lem crosses a.not_back) stands in
        ranks_behind buy g' h' (is_g.price ∙ sym is_h.price) (is_h.displayed ∙ crosses_hidden also_crosses)
        (rw (a.stamped, b.stamped) (earlier_place n (moved_to n k buy away a.from).stamp.place (moved_to n k buy away b.from).stamp.place rises));
    behind = λ h g g' p not e q crosses is_g there.
        let command : g'.stamp.command.0 ≡ n.0 = ap (λ (m : Number). m.0) is_g.stamp in
        let range : InRange last h = one_of_all sides.own_in_range p in
        ranks_behind buy h g' (e ∙ sym is_g.price) (is_g.displayed ∙ crosses_hidden crosses)
        (earlier_command h.stamp g'.stamp (omega (arith, above, command, range.stamped_up_to)));
  }
    where
      lines : Resting → List Event
      lines h = told_by (quote_fate away buy h) h

-- ── An accepted quote ──

-- where the sells' moves begin
abbrev next_move : Away → Book → ℕ
next_move away b = first_move + length (set_anew (quote_fate away true) b.buys)

module _ (b : Book) (line : List ℕ) (n : Number) (time : ℕ) (away : Away)
    (is : command_in line ≡ Some (record { number = n; time = time; body = body.Quote away })) (t : acts b line ≡ true) where
  -- the two sides after it, and the events
  quote_done : ((answer_to b line).book.buys ≡ settled_side n first_move true (quote_fate away true) b.buys)
      × ((answer_to b line).book.sells ≡ settled_side n (next_move away b) false (quote_fate away false) b.sells)
      × ((answer_to b line).events ≡ told (quote_fate away true) b.buys ++ told (quote_fate away false) b.sells)
  quote_done =
      let d = accepted_does b line (record { number = n; time = time; body = body.Quote away }) is t in
      let q = quote_does n time b away in
      (ap (λ (after : Book). after.buys) (d.0 ∙ q.0), ap (λ (after : Book). after.sells) (d.0 ∙ q.0), d.1 ∙ q.1)

  -- its number is above the last
  quote_above : b.held.last.0 < n.0
  quote_above =
      let next : n.0 ≡ b.held.last.0 + 1 = subst (λ (r : Reading). command_number r ≡ b.held.last.0 + 1) is (next_acts b line t).0 in
      omega (arith, next)

-- what an accepted quote moves, on each side
pub quote_moves : (b : Book) (line : List ℕ) (n : Number) (time : ℕ) (away : Away) → sound b ≡ true
    → command_in line ≡ Some (record { number = n; time = time; body = body.Quote away }) → acts b line ≡ true
    → Quoted true n away b.buys (answer_to b line).book.buys (events_in (printed (answer_to b line)))
    × Quoted false n away b.sells (answer_to b line).book.sells (events_in (printed (answer_to b line)))
quote_moves b line n time away s is t =
    let done = quote_done b line n time away is t in
    let above = quote_above b line n time away is t in
    let buys = told (quote_fate away true) b.buys in
    let sells = told (quote_fate away false) b.sells in
    rw (line_told b line s, done.0, done.1, done.2) (
      quoted_side true n first_move away (sides_of true b (sound_is b s)) above (buys ++ sells) (λ e p. in_front_lem sells p),
      quoted_side false n (next_move away b) away (sides_of false b (sound_is b s)) above (buys ++ sells) (λ e p. behind buys p),
    )

-- the lines of one side's moves
writes_side : (buy : Bool) (away : Away) (s : List Resting) → Writes buy away s (told (quote_fate away buy) s)
unfolding told gathered
writes_side buy away [] = empty
writes_side buy away (h ∷ s) =
    quote_fate_lem (λ (f : Fate). Writes buy away (h ∷ s) (told_by f h ++ told (quote_fate away buy) s)) away buy h
    (λ t. of_none (not_crossing t) (writes_side buy away s))
    (λ t b. of_cancelled (would_cross_lem buy away h t) b (writes_side buy away s))
    (λ t b. subst (λ (p : HalfCents). Writes buy away (h ∷ s) (Moved h.number p h.shares ∷ told (quote_fate away buy) s))
    (locking_is buy away) (of_moved (would_cross_lem buy away h t) b (writes_side buy away s)))

-- an accepted quote writes the lines of its moves, buys first, and nothing else
pub quote_writes : (b : Book) (line : List ℕ) (n : Number) (time : ℕ) (away : Away) → sound b ≡ true
    → command_in line ≡ Some (record { number = n; time = time; body = body.Quote away }) → acts b line ≡ true
    → WritesBoth away b.buys b.sells (events_in (printed (answer_to b line)))
quote_writes b line n time away s is t = record {
  of_buys = told (quote_fate away true) b.buys;
  of_sells = told (quote_fate away false) b.sells;
  buys_first = line_told b line s ∙ (quote_done b line n time away is t).2;
  buys_write = writes_side true away b.buys;
  sells_write = writes_side false away b.sells;
}

-- whoever is put on a side does not cross
put_uncrossed : (n : Number) (k : ℕ) (buy : Bool) (away : Away) (s : List Resting) (h : Resting) → Put n k buy away s h → Crosses away h buy → ⊥
put_uncrossed n k buy away s h (remains p alone) = alone
put_uncrossed n k buy away s h (is_moved {h = g} p crosses b) = not_crossing (set_stays buy away g (moved_to n k buy away p).stamp)

-- after an accepted quote no non-displayed order crosses it
pub no_hidden_order_crosses : (b : Book) (line : List ℕ) (n : Number) (time : ℕ) (away : Away)
    → command_in line ≡ Some (record { number = n; time = time; body = body.Quote away }) → acts b line ≡ true
    → All (λ (h : Resting). Crosses away h true → ⊥) (answer_to b line).book.buys
    × All (λ (h : Resting). Crosses away h false → ⊥) (answer_to b line).book.sells
no_hidden_order_crosses b line n time away is t =
    let done = quote_done b line n time away is t in
    rw (done.0, done.1) (
      all_alike (put_uncrossed n first_move true away b.buys) (all_put n first_move true away b.buys),
      all_alike (put_uncrossed n (next_move away b) false away b.sells) (all_put n (next_move away b) false away b.sells),
    )
