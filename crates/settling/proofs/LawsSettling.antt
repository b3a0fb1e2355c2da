-- The invariant of a loop that settles a side one order after the other, whatever the fate of each: what is still to be done, with what was
-- done, is what settles the whole side. Assumes nothing.
use Prim.Native.Nat.{ℕ, zero, suc, ◌+◌, ◌≤◌, ◌<◌}
use mathlib.Core.Bool.{Bool, true}
use mathlib.Core.List.{List, [], ◌∷◌, ◌++◌, append-nil, append_assoc}
use mathlib.Core.Path.{◌≡◌, refl, sym, ap, ◌∙◌}
use lib.ListN.{length, get_or, take, drop, length-append, take-append-drop}
use lib.Seq.{take_at, drop-cons, length-take-le}
use native.Mathlib.Numerals.{add-one}
use native.Mathlib.Omega.{arith}
use Rattle.basics.specs.Bytes.{onto, onto_from}
use Rattle.basics.specs.Lists.{remove_at, gathered, All, none, also}
use Rattle.basics.proofs.LawsBytes.{onto_none, onto_next}
use Rattle.basics.proofs.LawsLists.{all_alike, length_remove_at}
use Rattle.kinds.specs.declared.Number.{Number}
use Rattle.rules.specs.declared.Event.{Event}
use Rattle.rules.specs.declared.Fate.{Fate}
use Rattle.rules.specs.declared.Fate.TheVariants.{Stays, IsCancelled, IsSet}
use Rattle.rules.specs.declared.Resting.{Resting}
use Rattle.rules.specs.Book.{unused, stamp, in_rank_order}
use Rattle.rules.specs.EventLines.{event_lines}
use Rattle.rules.specs.Settling.{stamped_as, set_by, told_by, set_anew, told, settled_side}
use Rattle.rules.proofs.LawsCommands.{IfSet}
use Rattle.rules.proofs.LawsEvents.{event_lines_append, none_long}
use Rattle.soundness.proofs.LawsInsert.{Added, here, later, added_insert, added_length, added_all, ranked_insert}
use Rattle.rules.proofs.LawsRank.{earlier_place, earlier_transitive, ranked_first, ranked_rest, ranked_more}
use Rattle.soundness.proofs.LawsSettled.{next_place}
use Rattle.settling.specs.declared.Settling.{Settling}
use Rattle.side.specs.Looking.{Older}
use Rattle.settling.specs.OneByOne.{settled_at, after_one, set_below, settled_in}
use Rattle.settling.proofs.LawsOneByOne.{Stay, SetStays, added_others, told_one, anew_one, settled_one, told_none, anew_none, settled_none}

-- ── One order more or fewer ──

all_but : {P : Resting → Type 0} {x : Resting} {s r : List Resting} → Added x s r → All P r → All P s
all_but here (also p a) = a
all_but (later d) (also p a) = also p (all_but d a)

ranked_but : (buy : Bool) {x : Resting} {s r : List Resting} → Added x s r → in_rank_order buy r ≡ true → in_rank_order buy s ≡ true
ranked_but buy {x = x} (here {s = s}) o = ranked_rest buy x s o
ranked_but buy (later {y = y} {s = s} {r = r} d) o = ranked_more buy y s (all_but d (ranked_first buy y r o)) (ranked_but buy d (ranked_rest buy y r o))

-- a claim of the first ones, when one that passes comes among all
all_fewer : {P : Resting → Type 0} (i : ℕ) (s : List Resting) → All P (take (suc i) s) → All P (take i s)
all_fewer zero s a = none
all_fewer (suc i) [] a = none
all_fewer (suc i) (x ∷ s) (also p a) = also p (all_fewer i s a)

all_front : {P : Resting → Type 0} {x : Resting} (i : ℕ) → P x → {s r : List Resting} → Added x s r → All P (take i s) → All P (take i r)
all_front zero p d a = none
all_front (suc i) p (here {s = s}) a = also p (all_fewer i s a)
all_front (suc i) p (later d) (also q a) = also q (all_front i p d a)

-- ── Those that are left ──

-- an order that is set anew stands there as before
pub length_set : (n : Number) (k : ℕ) (buy : Bool) (new : Resting) (at : ℕ) (s : List Resting) → at < length s
    → length (settled_at n k buy (IsSet new) at s) ≡ length s
length_set n k buy new at s l =
    omega (arith, added_length (added_insert buy (stamped_as (stamp n k) new) (remove_at at s)), length_remove_at at s l)

length_settled : (n : Number) (k : ℕ) (buy : Bool) (f : Fate) (at : ℕ) (s : List Resting) → at < length s
    → length (settled_at n k buy f at s) ≤ length s
length_settled n k buy Stays at s l = omega arith
length_settled n k buy (IsCancelled reason) at s l = omega (arith, length_remove_at at s l)
length_settled n k buy (IsSet new) at s l = omega (arith, length_set n k buy new at s l)

-- what holds of all, and of whoever is set anew, holds of those that are left
removed_all : {P : Resting → Type 0} (at : ℕ) {s : List Resting} → All P s → All P (remove_at at s)
removed_all at a = all_joined (front at a) (behind (at + 1) a)
  where
    front : {P : Resting → Type 0} (k : ℕ) {s : List Resting} → All P s → All P (take k s)
    front zero a = none
    front (suc k) none = none
    front (suc k) (also p a) = also p (front k a)

    behind : {P : Resting → Type 0} (k : ℕ) {s : List Resting} → All P s → All P (drop k s)
    behind zero a = a
    behind (suc k) none = none
    behind (suc k) (also p a) = behind k a

    all_joined : {P : Resting → Type 0} {s u : List Resting} → All P s → All P u → All P (s ++ u)
    all_joined none b = b
    all_joined (also p a) b = also p (all_joined a b)

pub settled_at_all : {P : Resting → Type 0} (n : Number) (k : ℕ) (buy : Bool) (f : Fate) → IfSet (λ (new : Resting). P (stamped_as (stamp n k) new)) f
    → (at : ℕ) {s : List Resting} → All P s → All P (settled_at n k buy f at s)
settled_at_all n k buy Stays p at a = a
settled_at_all n k buy (IsCancelled reason) p at a = removed_all at a
settled_at_all n k buy (IsSet new) p at {s = s} a = added_all p (added_insert buy (stamped_as (stamp n k) new) (remove_at at s)) (removed_all at a)

-- ── The invariant ──

-- a side s is left of s₀, the command has come from `first` to m with it, and the lines are written onto out₀
pub record IsSettling (fate : Resting → Fate) (first : Settling) (s₀ : List Resting) (out₀ : List ℕ)
    (s : List Resting) (m : Settling) (out : List ℕ) : Type 0 where
  pub number : m.number ≡ first.number
  pub buying : m.buying ≡ first.buying
  pub ends : settled_side m.number m.next m.buying fate s ≡ settled_side m.number first.next m.buying fate s₀
  pub counts : m.next + length (set_anew fate s) ≡ first.next + length (set_anew fate s₀)
  pub done : List Event
  pub lines : done ++ told fate s ≡ told fate s₀
  pub long : m.length ≡ length (event_lines done)
  pub written : out ≡ onto (event_lines done) out₀
  pub ranked : in_rank_order m.buying s ≡ true
  pub older : All (Older (stamp m.number m.next)) s
  pub fits : length s ≤ length s₀

pub settling_start : (fate : Resting → Fate) (first : Settling) (s : List Resting) (out : List ℕ) → first.length ≡ 0
    → in_rank_order first.buying s ≡ true → All (Older (stamp first.number first.next)) s → IsSettling fate first s out s first out
unfolding event_lines
settling_start fate first s out z r o = record {
  number = refl;
  buying = refl;
  ends = refl;
  counts = refl;
  done = [];
  lines = refl;
  long = z;
  written = onto_none out;
  ranked = r;
  older = o;
  fits = omega arith;
}

pub anew_fit : (fate : Resting → Fate) (s : List Resting) → length (set_anew fate s) ≤ length s
unfolding set_anew gathered
anew_fit fate [] = omega arith
anew_fit fate (h ∷ s) = by_fate (fate h) (anew_fit fate s)
  where
    by_fate : (f : Fate) → length (set_anew fate s) ≤ length s → length (set_by f ++ set_anew fate s) ≤ suc (length s)
    by_fate Stays l = omega arith
    by_fate (IsCancelled reason) l = omega arith
    by_fate (IsSet new) l = omega arith

module _ {fate : Resting → Fate} {first : Settling} {s₀ : List Resting} {out₀ : List ℕ} {s : List Resting} {m : Settling} {out : List ℕ}
    (i : IsSettling fate first s₀ out₀ s m out) where
  abbrev n : Number
  n = m.number

  abbrev buy : Bool
  buy = m.buying

  abbrev k : ℕ
  k = m.next

  -- the places among the command's moves do not run out
  pub next_fits : m.next ≤ first.next + length s₀
  next_fits = omega (arith, i.counts, anew_fit fate s₀)

  module _ {at : ℕ} (l : at < length s) (h : Resting) (is : h ≡ get_or s at unused) where
    parted : s ≡ take at s ++ (h ∷ drop (at + 1) s)
    parted = rw (is, add-one at) (sym (take-append-drop at s) ∙ ap (λ (r : List Resting). take at s ++ r) (drop-cons s at unused l))

    pub ranked_others : in_rank_order buy (remove_at at s) ≡ true
    ranked_others = ranked_but buy (added_others at s h parted) i.ranked

    pub older_others : All (Older (stamp n k)) (remove_at at s)
    older_others = all_but (added_others at s h parted) i.older

    -- those before the order at a rank stay, and it meets its fate
    module _ (passed : Stay fate (take at s)) (stays : SetStays fate (stamp n k) (fate h)) where
      abbrev left : List Resting
      left = settled_at n k buy (fate h) at s

      abbrev line : List ℕ
      line = event_lines (told_by (fate h) h)

      told_now : (i.done ++ told_by (fate h) h) ++ told fate left ≡ told fate s₀
      told_now =
          append_assoc i.done (told_by (fate h) h) (told fate left)
          ∙ ap (λ (es : List Event). i.done ++ es) (sym (told_one fate n k buy at s h parted passed stays)) ∙ i.lines

      long_now : m.length + length line ≡ length (event_lines (i.done ++ told_by (fate h) h))
      long_now = rw (event_lines_append i.done (told_by (fate h) h), length-append, i.long)

      -- there is room for its line
      pub room_now : m.length + length line ≤ length (event_lines (told fate s₀))
      room_now = rw (← told_now, event_lines_append (i.done ++ told_by (fate h) h), length-append) (omega (arith, long_now))

      pub fewer_lines : length (told fate s) ≡ length (told_by (fate h) h) + length (told fate left)
      fewer_lines = rw (told_one fate n k buy at s h parted passed stays, length-append)

      -- how far the command has come then
      abbrev after : Settling
      after = record { number = n; buying = buy; next = next_place (fate h) k; length = m.length + length line }

      pub settling_one : set_below (fate h) → IsSettling fate first s₀ out₀ left after (onto_from m.length line out) × Stay fate (take at left)
      settling_one below =
          let counted = ap length (anew_one fate n k buy at s h parted passed stays) in
          let stand = standing (fate h) stays below in (
            record {
              number = i.number;
              buying = i.buying;
              ends = sym (settled_one fate n k buy at s h parted passed stays ranked_others) ∙ i.ends;
              counts = omega (arith, i.counts, counted, length-append (set_by (fate h)) (set_anew fate left), next_is (fate h));
              done = i.done ++ told_by (fate h) h;
              lines = told_now;
              long = long_now;
              written =
                  ap (onto_from m.length line) i.written ∙ onto_next (event_lines i.done) line out₀ m.length (sym i.long)
                  ∙ ap (λ (x : List ℕ). onto x out₀) (sym (event_lines_append i.done (told_by (fate h) h)));
              ranked = stand.1;
              older = stand.2;
              fits = omega (arith, i.fits, length_settled n k buy (fate h) at s l);
            },
            stand.0,
          )
        where
          next_is : (f : Fate) → next_place f k ≡ k + length (set_by f)
          next_is Stays = omega arith
          next_is (IsCancelled reason) = omega arith
          next_is (IsSet new) = omega arith

          front : Stay fate (take at (remove_at at s))
          front = rw (take_at (take at s) (drop (at + 1) s) at (length-take-le at s (omega arith))) passed

          standing : (f : Fate) → SetStays fate (stamp n k) f → set_below f → let s' = settled_at n k buy f at s in
              Stay fate (take at s') × (in_rank_order buy s' ≡ true) × All (Older (stamp n (next_place f k))) s'
          standing Stays p b = (passed, i.ranked, i.older)
          standing (IsCancelled reason) p b = (front, ranked_others, older_others)
          standing (IsSet new) p b =
              let x = stamped_as (stamp n k) new in
              let next = stamp n (suc k) in
              let added = added_insert buy x (remove_at at s) in
              let before = earlier_place n k (suc k) (omega arith) in
              let others : All (Older next) (remove_at at s) =
              all_alike (λ y o. record { priced = o.priced; stamped = earlier_transitive y.stamp (stamp n k) next o.stamped before }) older_others in (
                all_front at p added front,
                ranked_insert buy x (remove_at at s) (all_alike (λ y o. o.stamped) older_others) ranked_others,
                added_all (record { priced = b; stamped = before }) added others,
              )

-- ── What the code leaves ──

after_is : (m : Settling) (f : Fate) (h : Resting)
    → after_one m f h ≡ record { number = m.number; buying = m.buying; next = next_place f m.next; length = m.length + length (event_lines (told_by f h)) }
after_is m Stays h =
    let z : m.length ≡ m.length + length (event_lines []) = omega (arith, none_long) in
    λ i. record { number = m.number; buying = m.buying; next = m.next; length = z i }
after_is m (IsCancelled reason) h = refl
after_is m (IsSet new) h = rw (add-one m.next)

-- a side is settled, and its lines are written
abbrev pub IsSettled : (Resting → Fate) → Settling → List Resting → List ℕ → List Resting → Settling → List ℕ → Type 0
IsSettled fate first s₀ out₀ s m out =
    (m ≡ settled_in first.number first.next first.buying fate s₀)
    × (s ≡ settled_side first.number first.next first.buying fate s₀)
    × (out ≡ onto (event_lines (told fate s₀)) out₀)

module _ {fate : Resting → Fate} {first : Settling} {s₀ : List Resting} {out₀ : List ℕ} {s : List Resting} {m : Settling} {out : List ℕ}
    (i : IsSettling fate first s₀ out₀ s m out) where
  -- what `settle` leaves
  pub settle_leaves : {at : ℕ} → Stay fate (take at s) → at < length s → (h : Resting) → h ≡ get_or s at unused → (f : Fate) → f ≡ fate h
      → SetStays fate (stamp m.number m.next) (fate h) → set_below (fate h) → (m' : Settling) (s' : List Resting) (out' : List ℕ) → m' ≡ after_one m f h
      → s' ≡ settled_at m.number m.next m.buying f at s → out' ≡ onto_from m.length (event_lines (told_by f h)) out
      → IsSettling fate first s₀ out₀ s' m' out' × Stay fate (take at s') × (length (told fate s) ≡ length (told_by f h) + length (told fate s'))
  settle_leaves {at = at} passed l h is f e stays below m' s' out' p q r =
      let one = settling_one i l h is passed stays below in
      rw (p ∙ after_is m f h, r, q) (rw e one.0, rw e one.1, rw e (fewer_lines i l h is passed stays))

  -- where all that are left stay, the side is settled
  pub settled_all : Stay fate s → IsSettled fate first s₀ out₀ s m out
  settled_all all =
      let told_all : i.done ≡ told fate s₀ =
      sym (append-nil i.done) ∙ ap (λ (es : List Event). i.done ++ es) (sym (told_none fate all)) ∙ i.lines in
      let next : m.next ≡ first.next + length (set_anew fate s₀) = omega (arith, i.counts, ap length (anew_none fate all)) in
      let long : m.length ≡ length (event_lines (told fate s₀)) = i.long ∙ ap (λ (es : List Event). length (event_lines es)) told_all in (
        λ j. record { number = i.number j; buying = i.buying j; next = next j; length = long j },
        sym (settled_none fate all m.number m.next m.buying) ∙ i.ends ∙ rw (i.number, i.buying),
        i.written ∙ ap (λ (es : List Event). onto (event_lines es) out₀) told_all,
      )
