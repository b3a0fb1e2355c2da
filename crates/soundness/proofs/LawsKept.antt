-- Every answer to a line keeps a sound book sound, so a day that begins with a fresh book has no unsound one. Assumes nothing.
use Prim.Native.Nat.{ℕ, zero, suc, ◌+◌, ◌-◌, ◌*◌, ◌≤◌, ◌<◌}
use mathlib.Core.Bool.{Bool, true, false, ◌&&◌, true≢false}
use mathlib.Core.List.{List, [], ◌∷◌, ◌++◌}
use mathlib.Core.Logic.{⊎_elim}
use mathlib.Core.Path.{◌≡◌, refl, sym, ◌∙◌, subst}
use lib.Dec.{eqb, leb}
use lib.ListN.{length, replicate, length-append, length-replicate}
use lib.Seq.{take-append_seam, drop-append_seam}
use native.Mathlib.Omega.{arith}
use borrow.Author.Tests.{le-leb, leb-true, ltb-true, eq-eqb, eqb-true}
use Rattle.std.specs.Prelude.{if◌then◌else◌, Some, None}
use Rattle.basics.specs.Lists.{every, distinct}
use Rattle.basics.proofs.LawsChoice.{holds_or_not, and_left, and_right}
use Rattle.basics.proofs.LawsLists.{all_alike}
use Rattle.kinds.specs.declared.Cents.{Cents}
use Rattle.kinds.specs.declared.Number.{Number}
use Rattle.kinds.specs.declared.HalfCents.{HalfCents}
use Rattle.kinds.specs.Kinds.{halves_a_cent, in_half_cents, resting_price_in_range}
use Rattle.kinds.proofs.LawsRanges.{price_rests}
use Rattle.rules.specs.declared.Away.{Away}
use Rattle.rules.specs.declared.Body.{Body}
use Rattle.rules.specs.declared.Body.TheVariants as body
use Rattle.rules.specs.declared.Command.{Command}
use Rattle.rules.specs.declared.Fate.{Fate}
use Rattle.rules.specs.declared.Fate.TheVariants.{Stays, IsCancelled, IsSet}
use Rattle.rules.specs.declared.Order.{Order}
use Rattle.rules.specs.CommandLines.{Reading}
use Rattle.rules.specs.declared.Resting.{Resting}
use Rattle.rules.specs.Book.{Book, BookRecord, fresh, opening, closing, places_a_side, stamp, in_rank_order, apart, away_in_range, sound, unused, is_unused, orders_in, places_of, book_in, record_of, places_sound, record_sound}
use Rattle.rules.specs.CommandLines.{command_in}
use Rattle.rules.specs.Commands.{with_accepted, with_away, shut, cancel, quote, carried_out, does}
use Rattle.rules.specs.Day.{book_after}
use Rattle.rules.specs.Refusals.{least_room, first_of, rests_on_full_side, body_refusals, line_refusals, refusals}
use Rattle.rules.specs.Settling.{settled_side, first_move, settled, both_settled}
use Rattle.rules.specs.Step.{done_by, answer, answer_to, step, step_on}
use Rattle.rules.specs.Working.{locking_price, absent, beyond, reaches, buying, met_by, ending}
use Rattle.rules.proofs.LawsCommands.{fate_by, IfSet, if_set, set_same, crosses_present, crosses_hidden, crosses_beyond, order_does, close_does}
use Rattle.rules.proofs.LawsRefusals.{fit_facts}
use Rattle.soundness.proofs.LawsAccepted.{accepted, AcceptedOrder, accepted_order, accepted_quote}
use Rattle.soundness.proofs.LawsOrder.{accept_sides}
use Rattle.soundness.proofs.LawsSettled.{SetSound, LeftSound, SoundFates, sides_settled}
use Rattle.soundness.proofs.LawsSides.{shown_in, Sides, sides_flip, sides_none, sides_of, buys_sound, sides_sound, later_stamp, sides_later}
use Rattle.soundness.proofs.LawsSound.{Sound, sound_is, is_sound_lem}

-- ── The prices of those that are set anew ──

-- both away prices of an accepted quote are in range, and the Locking Price is, where it is there
pub locking_ranged : (buy : Bool) (away : Away) → (away_in_range away.bid && away_in_range away.offer) ≡ true
    → away_in_range (if buy then away.offer else away.bid) ≡ true
locking_ranged true away a = and_right (away_in_range away.bid) (away_in_range away.offer) a
locking_ranged false away a = and_left (away_in_range away.bid) (away_in_range away.offer) a

present_ranged : (p : Cents) → away_in_range p ≡ true → absent (in_half_cents p) ≡ false → resting_price_in_range (in_half_cents p) ≡ true
present_ranged p a e =
    ⊎_elim
    (λ (t : eqb p.0 0 ≡ true).
    let z : halves_a_cent * p.0 ≡ 0 = omega (arith, eqb-true p.0 0 t) in
    absurd (true≢false (sym (eq-eqb (halves_a_cent * p.0) 0 z) ∙ e)))
    (λ (t : eqb p.0 0 ≡ false). price_rests p (rw t at a))
    (holds_or_not (eqb p.0 0))

-- a price that is reached is reached from further away
reaches_further : (buy : Bool) (q near far : HalfCents) → reaches buy q near ≡ true → beyond buy far near ≡ true → reaches buy q far ≡ true
reaches_further true q near far a b =
    let l : near.0 ≤ q.0 = leb-true near.0 q.0 a in let k : far.0 < near.0 = ltb-true far.0 near.0 b in le-leb far.0 q.0 (omega (arith, l, k))
reaches_further false q near far a b =
    let l : q.0 ≤ near.0 = leb-true q.0 near.0 a in let k : near.0 < far.0 = ltb-true near.0 far.0 b in le-leb q.0 far.0 (omega (arith, l, k))

-- so is that of whoever is set at it, which is still apart from the opposite side, for it is less aggressive than before; all else stays
sound_fates : (b : Book) (c : Body) → first_of (body_refusals b c) ≡ 0 → (last : Number) (buy : Bool) → SoundFates shown_in last buy (fate_by c buy)
sound_fates b c accepted last buy opposite h r apart =
    left_if_set (fate_by c buy h)
    (if_set (SetSound buy opposite) c buy h
    (λ away is t.
    let ranged = accepted_quote b away (subst (λ (x : Body). first_of (body_refusals b x) ≡ 0) is accepted) in
    record {
      priced = present_ranged (if buy then away.offer else away.bid) (locking_ranged buy away ranged) (crosses_present buy away h t);
      is_apart =
          all_alike
          (λ o p. rw (crosses_hidden buy away h t)
          (reaches_further buy o.price h.price (locking_price buy away) (rw (crosses_hidden buy away h t) at p) (crosses_beyond buy away h t)))
          apart;
      shows = r.holding;
      floored = r.floored;
      least = r.least;
    }))
  where
    left_if_set : (f : Fate) → IfSet (SetSound buy opposite) f → LeftSound buy opposite h f
    left_if_set Stays i = r.holding
    left_if_set (IsCancelled reason) i = tt
    left_if_set (IsSet new) i = i

-- ── An accepted command ──

module _ (b : Book) (s : Sound b) (n : Number) (time : ℕ) (next : n.0 ≡ b.held.last.0 + 1) (is_open : b.held.closed ≡ false)
    (opened : leb opening time ≡ true) (in_time : leb time closing ≡ true) where
  accept_sound : (o : Order) → AcceptedOrder b o → Sound (does n time (body.Order o) b).book
  unfolding rests_on_full_side
  accept_sound o a =
      rw (order_does n time b o).0
      (sides_sound (with_accepted n time b.held) opened in_time s.bid s.offer is_open (buying o)
      (accept_sides n o (met_by o b) (sides_of (buying o) b s) next a.is_lawful a.carries a.hides a.in_range a.room first_move
      (ending o (met_by o b)) refl))

  -- both sides, settled by the fates of a command
  both_sides_lem : (c : Body) → first_of (body_refusals b c) ≡ 0 → (k : ℕ)
      → Sides false n (settled_side n k false (fate_by c false) b.sells) (settled_side n first_move true (fate_by c true) b.buys)
  both_sides_lem c accepted k =
      let sides = sides_of true b s in
      let above : b.held.last.0 < n.0 = omega (arith, next) in
      let fates = sound_fates b c accepted n in
      let new = later_stamp (stamp n first_move) above sides.own_in_range in
      let buys = sides_settled n first_move (fate_by c true) (set_same c true) (fates true) new (sides_later sides (omega (arith, above))) in
      sides_settled n k (fate_by c false) (set_same c false) (fates false) (later_stamp (stamp n k) above sides.opposite_in_range) (sides_flip true buys)

  cancel_sound : (of : Number) → first_of (body_refusals b (body.Cancel of)) ≡ 0 → Sound (does n time (body.Cancel of) b).book
  unfolding does carried_out cancel both_settled settled
  cancel_sound of accepted =
      sides_sound (with_accepted n time b.held) opened in_time s.bid s.offer is_open false (both_sides_lem (body.Cancel of) accepted _)

  quote_sound : (away : Away) → first_of (body_refusals b (body.Quote away)) ≡ 0 → Sound (does n time (body.Quote away) b).book
  unfolding does carried_out quote both_settled settled
  quote_sound away accepted =
      let ranged = accepted_quote b away accepted in
      let held = with_away away (with_accepted n time b.held) in
      sides_sound held opened in_time (locking_ranged false away ranged) (locking_ranged true away ranged) is_open false (both_sides_lem (body.Quote away) accepted _)

  close_sound : Sound (does n time body.Close b).book
  close_sound = rw (close_does n time b).0 (buys_sound (shut (with_accepted n time b.held)) opened in_time s.bid s.offer refl (sides_none n))

  body_sound : (c : Body) → first_of (body_refusals b c) ≡ 0 → Sound (does n time c b).book
  body_sound (body.Order o) e = accept_sound o (accepted_order b o e)
  body_sound (body.Cancel of) e = cancel_sound of e
  body_sound (body.Quote away) e = quote_sound away e
  body_sound body.Close e = close_sound

pub does_sound : (b : Book) (c : Command) → sound b ≡ true → first_of (line_refusals b (Some c)) ≡ 0 → sound (does c.number c.time c.body b).book ≡ true
does_sound b c s e =
    let a = accepted b c e in
    is_sound_lem (does c.number c.time c.body b).book (body_sound b (sound_is b s) c.number c.time a.next a.is_open a.opened a.in_time c.body a.by_body)

-- ── Any line ──

done_sound : (b : Book) (r : Reading) → sound b ≡ true → first_of (line_refusals b r) ≡ 0 → sound (done_by r b).book ≡ true
unfolding done_by
done_sound b None s e = s
done_sound b (Some c) s e = does_sound b c s e

pub answer_kept : (b : Book) (r : Reading) (refusal : ℕ) → sound b ≡ true → (refusal ≡ 0 → first_of (line_refusals b r) ≡ 0) → sound (answer refusal r b).book ≡ true
unfolding answer
answer_kept b r refusal s f =
    ⊎_elim
    (λ (t : eqb refusal 0 ≡ true). rw t (done_sound b r s (f (eqb-true refusal 0 t))))
    (λ (t : eqb refusal 0 ≡ false). rw t s)
    (holds_or_not (eqb refusal 0))

-- what the whole table does not refuse, the line's own part of it does not
line_accepted : (room : ℕ) (book_sound : Bool) (b : Book) (r : Reading) → first_of (refusals room book_sound b r) ≡ 0 → first_of (line_refusals b r) ≡ 0
unfolding refusals
line_accepted room book_sound b r e =
    (fit_facts room book_sound (line_refusals b r) e).2

pub answer_sound : (b : Book) (line : List ℕ) → sound b ≡ true → sound (answer_to b line).book ≡ true
unfolding answer_to
answer_sound b line s =
    answer_kept b (command_in line) (first_of (refusals least_room true b (command_in line))) s (line_accepted least_room true b (command_in line))

-- ── A day ──

pub fresh_sound : sound fresh ≡ true
unfolding sound every distinct in_rank_order apart
fresh_sound = refl

pub after_sound : (b : Book) (lines : List (List ℕ)) → sound b ≡ true → sound (book_after b lines) ≡ true
unfolding book_after
after_sound b [] s = s
after_sound b (line ∷ lines) s = after_sound (answer_to b line).book lines (answer_sound b line s)

-- ── The record that is lent and handed back ──

-- the places of a side hold its orders, and no others
orders_places : (s : List Resting) → orders_in (places_of s) ≡ s
unfolding places_of
orders_places s = take-append_seam s (replicate (places_a_side - length s) unused)

pub book_record : (b : Book) → book_in (record_of b) ≡ b
unfolding book_in record_of
book_record b = rw (orders_places b.buys, orders_places b.sells)

every_unused : (n : ℕ) → every is_unused (replicate n unused) ≡ true
unfolding every
every_unused zero = refl
every_unused (suc n) = every_unused n

places_sound_lem : (s : List Resting) → length s ≤ places_a_side → places_sound (places_of s) ≡ true
unfolding places_of
places_sound_lem s l =
    let unused_places = replicate (places_a_side - length s) unused in
    let all : length (s ++ unused_places) ≡ places_a_side = simp (length-append, length-replicate) (omega arith) in
    rw (le-leb (length s) places_a_side l, eq-eqb (length (s ++ unused_places)) places_a_side all, drop-append_seam s unused_places) (every_unused (places_a_side - length s))

pub record_sound_lem : (b : Book) → sound b ≡ true → record_sound (record_of b) ≡ true
unfolding record_sound record_of
record_sound_lem b s =
    let facts = sound_is b s in
    rw (places_sound_lem b.buys facts.buys_fit, places_sound_lem b.sells facts.sells_fit, book_record b) s

step_kept : (r : BookRecord) (a : Reading) (refusal : ℕ) → record_sound r ≡ true → (refusal ≡ 0 → first_of (line_refusals (book_in r) a) ≡ 0)
    → record_sound (if eqb refusal 0 then record_of (answer refusal a (book_in r)).book else r) ≡ true
unfolding record_sound
step_kept r a refusal s f =
    ⊎_elim
    (λ (t : eqb refusal 0 ≡ true).
    let held : sound (book_in r) ≡ true = and_right (places_sound r.buys && places_sound r.sells) (sound (book_in r)) s in
    rw t (record_sound_lem (answer refusal a (book_in r)).book (answer_kept (book_in r) a refusal held f)))
    (λ (t : eqb refusal 0 ≡ false). rw t s)
    (holds_or_not (eqb refusal 0))

pub step_sound : (r : BookRecord) (line out : List ℕ) → record_sound r ≡ true → record_sound (step r line out).book ≡ true
unfolding step step_on
step_sound r line out s =
    step_kept r (command_in line) (first_of (refusals (length out) (record_sound r) (book_in r) (command_in line))) s (line_accepted (length out) (record_sound r) (book_in r) (command_in line))
