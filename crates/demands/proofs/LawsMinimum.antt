-- Minimums (02, W7; `specs/Minimum`): demand 3 with them, by the walk in rank order; what an order with one executes at least, incoming and
-- resting; that whoever gave nothing stands as before; and what a minimum may be. Assumes nothing.
use Prim.Native.Nat.{ℕ, ◌-◌, ◌≤◌, ◌<◌, min}
use mathlib.Core.Bool.{true, false, not, ◌&&◌, true≢false}
use mathlib.Core.List.{List, [], ◌∷◌, ◌++◌}
use mathlib.Core.Logic.{◌≢◌, ◌⊎◌, inl, inr, ⊎_elim}
use mathlib.Core.Path.{◌≡◌, refl, sym, ap, subst, ◌∙◌}
use lib.Dec.{eqb, leb}
use native.Mathlib.Omega.{arith}
use borrow.Author.Tests.{eqb-true, eqb-false, ltb-true, ltb-false, leb-true, not-true}
use Rattle.basics.specs.Lists.{total, All, none, also, OneOf, Each, empty, with}
use Rattle.basics.proofs.LawsChoice.{holds_or_not, by_choice, lt_or_le, and_left, and_right}
use Rattle.basics.proofs.LawsLists.{all_alike, all_always, all_both, one_of_all}
use Rattle.kinds.specs.Kinds.{shares_in_range}
use Rattle.kinds.specs.declared.HalfCents.{HalfCents}
use Rattle.kinds.specs.declared.Number.{Number}
use Rattle.kinds.specs.declared.Shares.{Shares}
use Rattle.rules.specs.declared.Body.TheVariants as body
use Rattle.rules.specs.declared.Carried.{Carried}
use Rattle.rules.specs.declared.Carried.TheVariants.{Nothing, MaxFloor, Minimum}
use Rattle.rules.specs.declared.Command.{Command}
use Rattle.rules.specs.declared.Event.{Event}
use Rattle.rules.specs.declared.Event.TheVariants.{Executed, Rested, Cancelled, Moved}
use Rattle.rules.specs.declared.Order.{Order}
use Rattle.rules.specs.declared.Resting.{Resting}
use Rattle.rules.specs.Book.{Book, BookRecord, fresh, sound, book_in, record_sound, shares_left}
use Rattle.rules.specs.CommandLines.{command_in}
use Rattle.rules.specs.Day.{printed}
use Rattle.rules.specs.Holdings.{Holding, size, holdings, nothing, walk, is_skipped, smaller, executions, after}
use Rattle.rules.specs.Instructions.{fok, post_only, has}
use Rattle.rules.specs.Refusals.{order_price_in_range, carried_in_range, order_in_range}
use Rattle.rules.specs.Step.{answer_to}
use Rattle.rules.specs.Working.{Met, buying, met_by, execution_price, may_touch, walked, minimum_of, least_of, takings, remainder, ending}
use Rattle.rules.proofs.LawsFloors.{under_floor, least_within, least_alone}
use Rattle.rules.proofs.LawsTakings.{nothing_total, nothing_each, walk_each, takings_are, takings_within}
use Rattle.rules.proofs.LawsWalkOrder.{holdings_there}
use Rattle.soundness.proofs.LawsKept.{fresh_sound}
use Rattle.soundness.proofs.LawsRecords.{book_sound_lem}
use Rattle.soundness.proofs.LawsSides.{InRange, sides_of}
use Rattle.soundness.proofs.LawsSound.{sound_is}
use Rattle.demands.specs.Locks.{ExecutesWith}
use Rattle.demands.specs.Minimum.{least_given, MayGive, WalksInRank, at_the_end, ends, skips, gives, ExecutesInRank, MinimumIs, no_minimum, hidden, BecomesWhatRemains}
use Rattle.demands.specs.Once.{Call, acts, by_call, by_line}
use Rattle.demands.specs.Refilled.{gave, Keeps, Stands, Stood, kept, refilled}
use Rattle.demands.specs.Run.{Enters}
use Rattle.demands.specs.ShareOut.{opposite, Given}
use Rattle.demands.specs.Told.{events_in, executed_in, given_in}
use Rattle.demands.proofs.LawsCalls.{call_enters}
use Rattle.demands.proofs.LawsExecutes.{Works, works, work_lines, lines_tell, lines_between, lines_execute, killed_fok, killed_short, killed_none, killed_whole_lem, killed_if_lem, lives_takes, acts_accepted, acts_order, acts_lines, acts_new}
use Rattle.demands.proofs.LawsFairly.{every_last}
use Rattle.demands.proofs.LawsHeld.{NoMore}
use Rattle.demands.proofs.LawsLinesTell.{opposite_once, every_refill, lines_of_nothing, lines_told}
use Rattle.demands.proofs.LawsOrigins.{same_order_lem}
use Rattle.demands.proofs.LawsPriceHere.{Meetable, given_here, here_is}
use Rattle.demands.proofs.LawsRefilled.{order_refills}
use Rattle.demands.proofs.LawsRun.{Entered, enters_sound}
use Rattle.demands.proofs.LawsShareOut.{priced_at, may_take, all_meetable, may_fair, fair_may, walked_is, walked_given}
use Rattle.demands.proofs.LawsTold.{line_told}
use Rattle.demands.proofs.LawsWalked.{takes_nothing, takes_all}
use Rattle.std.specs.Prelude.{Some, None}

-- ── The walk in rank order ──

-- who gives nothing gives no share
none_given : (price : Resting → HalfCents) (s : List Holding) → All (λ (g : Given). g.shares ≡ 0) (priced_at price s (nothing s))
unfolding priced_at nothing
none_given price [] = none
none_given price (h ∷ s) = also refl (none_given price s)

module _ {n : Number} (o : Order) (m : Met) (w : Works n o m) where
  abbrev at : Resting → HalfCents
  at = execution_price o m

  may_not_give : (h : Holding) → may_take o m h ≡ false → MayGive o m.away m.own h → ⊥
  may_not_give h t g =
      let same = here_is o m h.of g.price g.here in
      let touched : may_touch o m.away g.price ≡ true =
      fair_may o m w.is_side w.not_post_only w.ranked w.meetable g.price g.fair in
      true≢false (sym (subst (λ (p : HalfCents). may_touch o m.away p ≡ true) same touched) ∙ t)

  -- the rules walk as W7 says
  walk_in_rank : (left : ℕ) (s : List Holding) → All (λ (x : Holding). Meetable o m x.of) s
      → WalksInRank o m.away m.own left s (priced_at at s (walk (may_take o m) smaller left s))
  unfolding walk priced_at
  walk_in_rank left [] none = at_the_end
  walk_in_rank left (h ∷ s) (also c cs) =
      ⊎_elim
      (λ (t : may_take o m h ≡ true).
      let here = given_here o m w.is_side h.of c.priced in
      let fair = may_fair o m w.is_side w.not_post_only w.ranked w.meetable (at h.of) t in
      ⊎_elim
      (λ (k : is_skipped left h ≡ true).
      let same : left - 0 ≡ left = omega arith in
      let may : MayGive o m.away m.own h = record { price = at h.of; here = here; fair = fair } in
      rw (t, k, same) (skips may (ltb-true left (least_given h) k) refl (walk_in_rank left s cs)))
      (λ (k : is_skipped left h ≡ false).
      rw (t, k) (gives here fair (ltb-false left (least_given h) k) refl (walk_in_rank (left - min left (size h)) s cs)))
      (holds_or_not (is_skipped left h)))
      (λ (t : may_take o m h ≡ false). rw t (ends (may_not_give h t) (none_given at (h ∷ s))))
      (holds_or_not (may_take o m h))

-- ── Demand 3 ──

-- the minimum of an accepted order is no more than its shares
carried_least : (size : Shares) (c : Carried) → carried_in_range size c ≡ true → minimum_of c ≤ size.0
carried_least size Nothing r = omega arith
carried_least size (MaxFloor floor) r = omega arith
carried_least size (Minimum least) r = leb-true least.0 size.0 (and_right (leb 1 least.0) (leb least.0 size.0) r)

order_least : (o : Order) → order_in_range o ≡ true → minimum_of o.carried ≤ o.shares.0
order_least o r =
    carried_least o.shares o.carried
    (and_right (leb o.side 1 && shares_in_range o.shares && order_price_in_range o) (carried_in_range o.shares o.carried) r)

-- the least that a walk must give is no less than it
least_of_lem : (o : Order) → minimum_of o.carried ≤ o.shares.0 → minimum_of o.carried ≤ least_of o
least_of_lem o l = by_choice (λ (k : ℕ). minimum_of o.carried ≤ k) (has o.word fok) (λ t. l) (λ t. omega arith)

lines_in_rank : (b : Book) (c : Command) (o : Order) → Works c.number o (met_by o b) → minimum_of o.carried ≤ o.shares.0
    → ExecutesInRank b c o (work_lines c.number o (met_by o b))
lines_in_rank b c o w within =
    let n = c.number in
    let met = met_by o b in
    let s = met.opposite in
    let price = execution_price o met in
    let told = lines_told n price (holdings s) (takings o met) (remainder o met) (ending o met) (after s (takings o met)) in
    let gave = walked_given o met w.is_side w.not_post_only w.ranked w.meetable in
    record {
      between = lines_between n o met;
      walk = priced_at price (holdings s) (walked o met);
      walks =
          rw (walked_is o met w.is_side w.not_post_only w.ranked w.meetable)
          (walk_in_rank o met w o.shares.0 (holdings s) (all_meetable o met w.is_side w.not_post_only w.ranked w.meetable));
      killed_only = λ k. (killed_fok n o met w k, omega (arith, gave, killed_short n o met w k));
      killed_if = λ k l. killed_if_lem n o met w k (omega (arith, gave, l));
      killed_nothing = λ k. (told ∙ rw (killed_none n o met w k) (lines_of_nothing n price (holdings s)), killed_whole_lem n o met w k);
      below_nothing = λ l.
          told ∙ rw (takes_nothing o met (omega (arith, l, gave, least_of_lem o within))) (lines_of_nothing n price (holdings s));
      otherwise = λ l enough.
          let all = lives_takes n o met w l (omega (arith, gave, enough)) in
          (told ∙ rw all refl, lines_execute n o met w ∙ ap total all ∙ sym gave);
    }

-- of an order that enters
pub entered_in_rank : {stood : Book} {line : List ℕ} {c : Command} {o : Order} → Entered stood line c o → has o.word post_only ≡ false
    → ExecutesInRank stood c o (events_in (printed (answer_to stood line)))
entered_in_rank {stood = b} {line = line} {c = c} {o = o} e not_post_only =
    let order = acts_order b c o (acts_accepted b line c e.is_accepted e.reads) e.enters in
    subst (ExecutesInRank b c o)
    (sym (line_told b line e.is_sound ∙ acts_lines b line c o e.is_accepted e.reads e.enters))
    (lines_in_rank b c o (works b line c o e.is_sound e.is_accepted e.reads e.enters not_post_only)
    (order_least o order.in_range))

pub executes_in_rank : (b : Book) (line : List ℕ) (c : Command) (o : Order) → sound b ≡ true → acts b line ≡ true
    → command_in line ≡ Some c → c.body ≡ body.Order o → has o.word post_only ≡ false
    → ExecutesInRank b c o (events_in (printed (answer_to b line)))
executes_in_rank b line c o s t e f = entered_in_rank (record { is_sound = s; is_accepted = t; reads = e; enters = f })

-- over any run from a fresh book, and from any sound one, and by calls
pub run_executes_in_rank : (lines : List (List ℕ)) (stood : Book) (line : List ℕ) (c : Command) (o : Order)
    → Enters by_line fresh lines stood line c o → has o.word post_only ≡ false
    → ExecutesInRank stood c o (events_in (printed (answer_to stood line)))
run_executes_in_rank lines stood line c o r = entered_in_rank (enters_sound fresh_sound r)

pub executes_in_rank_from : {b : Book} {lines : List (List ℕ)} {stood : Book} {line : List ℕ} {c : Command} {o : Order} → sound b ≡ true
    → Enters by_line b lines stood line c o → has o.word post_only ≡ false
    → ExecutesInRank stood c o (events_in (printed (answer_to stood line)))
executes_in_rank_from s r = entered_in_rank (enters_sound s r)

pub calls_execute_in_rank : (r : BookRecord) (calls : List Call) (stood : BookRecord) (call : Call) (c : Command) (o : Order)
    → Enters by_call r calls stood call c o → has o.word post_only ≡ false
    → ExecutesInRank (book_in stood) c o (events_in (by_call.tells stood call))
calls_execute_in_rank r calls stood call c o e not_post_only =
    call_enters (ExecutesInRank (book_in stood) c o) e (λ entered. entered_in_rank entered not_post_only)

-- ── An incoming order with a minimum ──

-- it executes nothing, or no less than its minimum, whether it is Post Only or not
takings_least : (o : Order) (m : Met) → minimum_of o.carried ≤ o.shares.0
    → (total (takings o m) ≡ 0) ⊎ (minimum_of o.carried ≤ total (takings o m))
takings_least o m within =
    ⊎_elim
    (λ (l : total (walked o m) < least_of o). inl (ap total (takes_nothing o m l) ∙ nothing_total (holdings m.opposite)))
    (λ (l : least_of o ≤ total (walked o m)).
    let all : total (takings o m) ≡ total (walked o m) = ap total (takes_all o m l) in
    inr (omega (arith, l, all, least_of_lem o within)))
    (lt_or_le (total (walked o m)) (least_of o))

pub executes_its_least : (b : Book) (line : List ℕ) (c : Command) (o : Order) → sound b ≡ true → acts b line ≡ true
    → command_in line ≡ Some c → c.body ≡ body.Order o
    → let es = events_in (printed (answer_to b line)) in
    (executed_in c.number es ≡ 0) ⊎ (minimum_of o.carried ≤ executed_in c.number es)
executes_its_least b line c o s t e f =
    let met = met_by o b in
    let told = lines_tell c.number o met (acts_new b line c o s t e) in
    rw (line_told b line s, acts_lines b line c o t e f, told)
    (takings_least o met (order_least o (acts_order b c o (acts_accepted b line c t e) f).in_range))

-- ── A resting order with a minimum ──

-- a holding that gives gives no less than the smaller of its order's minimum and its size
abbrev GivesItsLeast : Holding → ℕ → Type 0
GivesItsLeast h t = t ≢ 0 → least_given h ≤ t

smaller_least : (left : ℕ) (h : Holding) → GivesItsLeast h (smaller left h)
smaller_least left h =
    by_choice (GivesItsLeast h) (is_skipped left h) (λ t some. absurd (some refl))
    (λ t some. omega (arith, ltb-false left (least_given h) t))

takings_give_least : (o : Order) (m : Met) → Each GivesItsLeast (holdings m.opposite) (takings o m)
takings_give_least o m =
    takings_are (Each GivesItsLeast (holdings m.opposite)) o m
    (nothing_each (all_always (λ h some. absurd (some refl)) (holdings m.opposite)))
    (walk_each (λ (h : Holding). may_touch o m.away (execution_price o m h.of)) smaller (λ h some. absurd (some refl))
    (λ left h t. smaller_least left h) o.shares.0 (holdings m.opposite))

-- an execution is with one of the side, of no less than the smaller of its minimum and its shares
record ExecutesLeast (side : List Resting) (resting : Number) (given : ℕ) : Type 0 where
  whom : Resting
  there : OneOf whom side
  is_resting : resting ≡ whom.number
  least : min whom.minimum.0 whom.shares.0 ≤ given

abbrev LeastExecuted : List Resting → Event → Type 0
LeastExecuted side (Executed incoming resting price given) = ExecutesLeast side resting given.0
LeastExecuted side (Rested n price left) = Unit {0}
LeastExecuted side (Cancelled n left reason) = Unit {0}
LeastExecuted side (Moved n price left) = Unit {0}

-- of an order with a minimum, which has no reserve, the shown part gives
part_least : (h : Holding) (t : ℕ) {last : Number} → InRange last h.of → t ≤ size h → t ≢ 0 → least_given h ≤ t
    → min h.of.minimum.0 h.of.shares.0 ≤ t
part_least h t r within some l =
    ⊎_elim
    (λ (k : 0 < h.of.minimum.0).
    let alone = least_alone h.of r.least r.floored k in
    ⊎_elim
    (λ (p : h.is_reserve ≡ true). let w : t ≤ h.of.reserve.0 = rw p at within in let z : ⊥ = omega (arith, w, alone, some) in absurd z)
    (λ (p : h.is_reserve ≡ false). rw p at l)
    (holds_or_not h.is_reserve))
    (λ (k : h.of.minimum.0 ≤ 0). omega (arith, k))
    (lt_or_le 0 h.of.minimum.0)

-- of an execution for each holding that gives
executions_least : (n : Number) (price : Resting → HalfCents) {side : List Resting} {last : Number} → All (InRange last) side
    → {hs : List Holding} {ts : List ℕ} → All (λ (h : Holding). OneOf h.of side) hs → Each NoMore hs ts → Each GivesItsLeast hs ts
    → All (LeastExecuted side) (executions n price hs ts)
unfolding executions
executions_least n price in_range none empty empty = none
executions_least n price {side = side} in_range (also {x = h} p a) (with {y = t} within e) (with least f) =
    let others = executions_least n price in_range a e f in
    ⊎_elim
    (λ (z : eqb t 0 ≡ true). rw z others)
    (λ (z : eqb t 0 ≡ false).
    let some = eqb-false t 0 z in
    let own : ExecutesLeast side h.of.number t = record {
      whom = h.of;
      there = p;
      is_resting = refl;
      least = part_least h t (one_of_all in_range p) within some (least some);
    } in
    rw z (also own others))
    (holds_or_not (eqb t 0))

lines_least : (b : Book) (line : List ℕ) (c : Command) (o : Order) → sound b ≡ true → acts b line ≡ true → command_in line ≡ Some c
    → c.body ≡ body.Order o → All (LeastExecuted (opposite o b)) (events_in (printed (answer_to b line)))
lines_least b line c o s t e f =
    let n = c.number in
    let met = met_by o b in
    let side = met.opposite in
    let executed = executions_least n (execution_price o met) (sides_of (buying o) b (sound_is b s)).opposite_in_range (holdings_there side)
    (takings_within o met) (takings_give_least o met) in
    let last = every_last {P = LeastExecuted side} n (λ price k. tt) (λ k reason. tt) (remainder o met) (ending o met) in
    let refills = every_refill {P = LeastExecuted side} (λ m price k. tt) (after side (takings o met)) in
    rw (line_told b line s, acts_lines b line c o t e f) (all_both executed (all_both last refills))

-- "a least size per execution": it never gives less in one than the smaller of its minimum and its holding
pub gives_its_least : {b : Book} {line : List ℕ} {o : Order} {h : Resting} {price : HalfCents} (e : ExecutesWith b line o h price)
    → min h.minimum.0 h.shares.0 ≤ e.shares.0
gives_its_least {b = b} {line = line} {o = o} {h = h} e =
    let x : ExecutesLeast (opposite o b) h.number e.shares.0 =
    one_of_all (lines_least b line e.command o e.is_sound e.is_accepted e.reads e.enters) e.prints in
    let once = opposite_once (sides_of (buying o) b (sound_is b e.is_sound)) in
    let same : x.whom ≡ h = same_order_lem once x.there e.there (ap (λ (n : Number). n.0) (sym x.is_resting)) in
    subst (λ (y : Resting). min y.minimum.0 y.shares.0 ≤ e.shares.0) same x.least

-- ── Who gave nothing ──

-- an order that kept all it showed is the same
kept_same : {es : List Event} (h x : Resting) {last : Number} → InRange last h → gave es h ≡ 0 → Keeps es h x → x ≡ h
kept_same h x r z k =
    let shown : x.shares.0 ≡ h.shares.0 = omega (arith, k.shown, z) in
    let left : shares_left x ≡ shares_left h = omega (arith, shown, ap (λ (q : Shares). q.0) k.reserve) in
    let least : x.minimum.0 ≡ h.minimum.0 = omega (arith, k.same.minimum, left, least_within h r.least) in
    λ i. record {
      number = k.same.number i;
      price = k.same.price i;
      shares = record { 0 = shown i };
      displayed = k.same.displayed i;
      back = k.same.back i;
      stamp = k.stamp i;
      reserve = k.reserve i;
      floor = k.same.floor i;
      minimum = record { 0 = least i };
    }

-- whoever gave nothing, skipped or not reached, keeps its place and its stamp
pub untouched_stays : (b : Book) (line : List ℕ) (c : Command) (o : Order) → sound b ≡ true → acts b line ≡ true
    → command_in line ≡ Some c → c.body ≡ body.Order o → (h : Resting) → OneOf h (opposite o b)
    → given_in h.number (events_in (printed (answer_to b line))) ≡ 0 → OneOf h (opposite o (answer_to b line).book)
untouched_stays b line c o s t e f h p z =
    let range = one_of_all (sides_of (buying o) b (sound_is b s)).opposite_in_range p in
    let stands = (order_refills b line c o s t e f).keeps h p (omega (arith, z, range.holding)) in
    subst (λ (x : Resting). OneOf x (opposite o (answer_to b line).book)) (kept_same h stands.order range z stands.is) stands.there

-- ── What a minimum may be ──

minimum_is : (last : Number) (h : Resting) → InRange last h → MinimumIs h
minimum_is last h range =
    let r = range.least in
    ⊎_elim
    (λ (t : eqb h.minimum.0 0 ≡ true). no_minimum (eqb-true h.minimum.0 0 t))
    (λ (t : eqb h.minimum.0 0 ≡ false).
    let some : 1 ≤ h.minimum.0 = let z = eqb-false h.minimum.0 0 t in omega (arith, z) in
    let both : (not h.displayed && leb h.minimum.0 (shares_left h)) ≡ true = rw t at r in
    let shown = not-true h.displayed (and_left (not h.displayed) (leb h.minimum.0 (shares_left h)) both) in
    let floorless : h.floor.0 ≡ 0 =
    ⊎_elim
    (λ (z : eqb h.floor.0 0 ≡ true). eqb-true h.floor.0 0 z)
    (λ (z : eqb h.floor.0 0 ≡ false). absurd (true≢false (sym (under_floor h range.floored z).0 ∙ shown)))
    (holds_or_not (eqb h.floor.0 0)) in
    hidden shown some (least_within h r) (least_alone h r range.floored (omega (arith, some))) floorless)
    (holds_or_not (eqb h.minimum.0 0))

minimums : (b : Book) → sound b ≡ true → All MinimumIs (b.buys ++ b.sells)
minimums b s =
    let sides = sides_of true b (sound_is b s) in
    all_both (all_alike (minimum_is b.held.last) sides.own_in_range) (all_alike (minimum_is b.held.last) sides.opposite_in_range)

pub record_minimums : (r : BookRecord) → record_sound r ≡ true → All MinimumIs ((book_in r).buys ++ (book_in r).sells)
record_minimums r s = minimums (book_in r) (book_sound_lem r s)

-- what is left of it, of each that stands after an order
pub becomes_what_remains : (b : Book) (line : List ℕ) (c : Command) (o : Order) → sound b ≡ true → acts b line ≡ true
    → command_in line ≡ Some c → c.body ≡ body.Order o → (h : Resting) → OneOf h (opposite o (answer_to b line).book)
    → Stands (BecomesWhatRemains h) (opposite o b)
becomes_what_remains b line c o s t e f h p = was ((order_refills b line c o s t e f).none_else h p)
  where
    was : {n : Number} {es : List Event} {before : List Resting} → Stood n es before h → Stands (BecomesWhatRemains h) before
    was (kept g q l k) = record { order = g; there = q; is = record { number = sym k.same.number; minimum = k.same.minimum } }
    was (refilled g q d k) = record { order = g; there = q; is = record { number = sym k.same.number; minimum = k.same.minimum } }
