-- A run in which no accepted order asks for a least size: nobody that rests has a minimum then, for a command only keeps or lowers those that
-- there are; so demand 3 stands as it was, for every order of the run that isn't Post Only. Assumes nothing.
use Prim.Native.Nat.{ℕ}
use mathlib.Core.Bool.{Bool, true, false, not}
use mathlib.Core.List.{List, ◌++◌}
use mathlib.Core.Path.{◌≡◌, refl, subst}
use native.Mathlib.Omega.{arith}
use Rattle.basics.specs.Lists.{All, none}
use Rattle.basics.proofs.LawsChoice.{by_choice}
use Rattle.basics.proofs.LawsLists.{all_first, all_second, one_of_all}
use Rattle.kinds.specs.declared.Number.{Number}
use Rattle.rules.specs.declared.Body.{Body}
use Rattle.rules.specs.declared.Body.TheVariants as body
use Rattle.rules.specs.declared.Command.{Command}
use Rattle.rules.specs.declared.Ending.{Ending}
use Rattle.rules.specs.declared.Ending.TheVariants.{Filled, Rests, Cancels}
use Rattle.rules.specs.declared.Event.{Event}
use Rattle.rules.specs.declared.Order.{Order}
use Rattle.rules.specs.declared.Resting.{Resting}
use Rattle.rules.specs.Book.{Book, fresh, sound}
use Rattle.rules.specs.Commands.{cancel, quote, close, carried_out, does}
use Rattle.rules.specs.Day.{printed}
use Rattle.rules.specs.Holdings.{after}
use Rattle.rules.specs.Instructions.{post_only, has}
use Rattle.rules.specs.Settling.{settled_side, first_move, settled, both_settled}
use Rattle.rules.specs.Step.{answer_to}
use Rattle.rules.specs.Working.{buying, met_by, takings, remainder, ending, remainder_of, minimum_of, with_remainder, refill_fate}
use Rattle.rules.proofs.LawsCommands.{fate_by, IfSet, if_set, order_does}
use Rattle.rules.proofs.LawsWalkOrder.{after_are, RefillSays, refill_says}
use Rattle.soundness.proofs.LawsInsert.{added_insert, added_all}
use Rattle.soundness.proofs.LawsKept.{fresh_sound}
use Rattle.soundness.proofs.LawsSettled.{settled_are}
use Rattle.demands.specs.Executes.{Executes}
use Rattle.demands.specs.Minimum.{NoMinimum, NoneAsks}
use Rattle.demands.specs.Once.{by_line}
use Rattle.demands.specs.Run.{Enters, now, later}
use Rattle.demands.specs.Told.{events_in}
use Rattle.demands.proofs.LawsOrigins.{after_line}
use Rattle.demands.proofs.LawsRun.{executes_from}

-- a resting order has no minimum
abbrev pub Plain : Resting → Type 0
Plain h = h.minimum.0 ≡ 0

-- .. and so none of a book
pub record AllPlain (b : Book) : Type 0 where
  pub buys : All Plain b.buys
  pub sells : All Plain b.sells

-- ── A command ──

-- what rests of an order that asks for none
own_plain : (n : Number) (o : Order) → minimum_of o.carried ≡ 0 → (left : ℕ) (e : Ending) {own : List Resting} → All Plain own
    → All Plain (with_remainder n o left e own)
own_plain n o asks left Filled plain = plain
own_plain n o asks left (Rests price) {own = own} plain =
    added_all (omega (arith, asks)) (added_insert (buying o) (remainder_of n o left price) own) plain
own_plain n o asks left (Cancels reason) plain = plain

-- whoever is left of those that an order meets, refilled or not
left_plain : (n : Number) (o : Order) (b : Book) (k : ℕ) → All Plain (met_by o b).opposite
    → All Plain (settled_side n k (not (buying o)) refill_fate (after (met_by o b).opposite (takings o (met_by o b))))
left_plain n o b k plain =
    let met = met_by o b in
    let left = after met.opposite (takings o met) in
    let kept : All Plain left = after_are o met (λ h t r p gives some. omega (arith, one_of_all plain p)) in
    settled_are refill_fate n k (not (buying o)) left (λ h p e. one_of_all kept p)
    (λ h new p e. subst Plain (subst (RefillSays h) e (refill_says h)).1 (one_of_all kept p))

-- an order
order_plain : (n : Number) (time : ℕ) (o : Order) (b : Book) → minimum_of o.carried ≡ 0 → AllPlain b
    → AllPlain (does n time (body.Order o) b).book
order_plain n time o b asks plain =
    let met = met_by o b in
    let mine = own_plain n o asks (remainder o met) (ending o met)
    (by_choice (All Plain) (buying o) (λ t. plain.buys) (λ t. plain.sells)) in
    let theirs = left_plain n o b first_move (by_choice (All Plain) (buying o) (λ t. plain.sells) (λ t. plain.buys)) in
    rw (order_does n time b o).0 (record {
      buys = by_choice (All Plain) (buying o) (λ t. mine) (λ t. theirs);
      sells = by_choice (All Plain) (buying o) (λ t. theirs) (λ t. mine);
    })

-- whoever another command lets stay or sets anew
settled_plain : (n : Number) (k : ℕ) (c : Body) (buy : Bool) {s : List Resting} → All Plain s
    → All Plain (settled_side n k buy (fate_by c buy) s)
settled_plain n k c buy {s = s} plain =
    settled_are (fate_by c buy) n k buy s (λ h p e. one_of_all plain p)
    (λ h new p e. subst (IfSet Plain) e (if_set Plain c buy h (λ away is t. one_of_all plain p)))

-- whatever a command does
does_plain : (n : Number) (time : ℕ) (b : Book) → AllPlain b → (c : Body) → ((o : Order) → c ≡ body.Order o → minimum_of o.carried ≡ 0)
    → AllPlain (does n time c b).book
unfolding does carried_out cancel quote close both_settled settled
does_plain n time b plain (body.Order o) asks = order_plain n time o b (asks o refl) plain
does_plain n time b plain (body.Cancel of) asks = record {
  buys = settled_plain n _ (body.Cancel of) true plain.buys;
  sells = settled_plain n _ (body.Cancel of) false plain.sells;
}
does_plain n time b plain (body.Quote away) asks = record {
  buys = settled_plain n _ (body.Quote away) true plain.buys;
  sells = settled_plain n _ (body.Quote away) false plain.sells;
}
does_plain n time b plain body.Close asks = record {
  buys = settled_plain n _ body.Close true plain.buys;
  sells = settled_plain n _ body.Close false plain.sells;
}

-- ── A run of lines ──

-- on the book that an order of the run enters nobody has a minimum ..
pub enters_plain : {b : Book} {lines : List (List ℕ)} {stood : Book} {line : List ℕ} {c : Command} {o : Order} → AllPlain b → NoneAsks b lines
    → Enters by_line b lines stood line c o → AllPlain stood
enters_plain plain asks (now t e f) = plain
enters_plain plain asks (later {b = b} {x = line} r) =
    enters_plain
    (after_line (λ (book : Book) (events : List Event). AllPlain book) b line (λ t. plain)
    (λ c t e order. does_plain c.number c.time b plain c.body (λ o f. asks b line c o (now t e f))))
    (λ stood line c o s. asks stood line c o (later s)) r

-- .. so neither it nor one that it meets has a minimum
pub enters_no_minimum : {b : Book} {lines : List (List ℕ)} {stood : Book} {line : List ℕ} {c : Command} {o : Order}
    → All Plain (b.buys ++ b.sells) → NoneAsks b lines → Enters by_line b lines stood line c o → NoMinimum o stood
enters_no_minimum {b = b} {stood = stood} {line = line} {c = c} {o = o} plain asks r =
    let all = enters_plain (record { buys = all_first b.buys b.sells plain; sells = all_second b.buys b.sells plain }) asks r in
    record {
      incoming = asks stood line c o r;
      resting = by_choice (All Plain) (buying o) (λ t. all.sells) (λ t. all.buys);
    }

-- and demand 3 stands as it was: from any sound book on which nobody has one, and from a fresh book
pub plain_executes_from : {b : Book} {lines : List (List ℕ)} {stood : Book} {line : List ℕ} {c : Command} {o : Order} → sound b ≡ true
    → All Plain (b.buys ++ b.sells) → NoneAsks b lines → Enters by_line b lines stood line c o
    → has o.word post_only ≡ false → Executes stood c o (events_in (printed (answer_to stood line)))
plain_executes_from s plain asks r not_post_only = executes_from s r not_post_only (enters_no_minimum plain asks r)

pub plain_run_executes : (lines : List (List ℕ)) (stood : Book) (line : List ℕ) (c : Command) (o : Order) → NoneAsks fresh lines
    → Enters by_line fresh lines stood line c o → has o.word post_only ≡ false → Executes stood c o (events_in (printed (answer_to stood line)))
plain_run_executes lines stood line c o asks r = plain_executes_from fresh_sound none asks r
