-- The best buy and the best sell are apart exactly where every buy is from every sell, seen from either side: "displayed never meets
-- displayed, nothing crosses" (02, W6). Assumes nothing.
use Prim.Native.Nat.{◌≤◌, ◌<◌}
use mathlib.Core.Bool.{Bool, true, false, not, ◌&&◌, true≢false}
use mathlib.Core.List.{List, [], ◌∷◌}
use mathlib.Core.Logic.{⊎_elim}
use mathlib.Core.Path.{◌≡◌, refl, sym, ◌∙◌}
use native.Mathlib.Omega.{arith}
use borrow.Author.Tests.{eq-eqb, lt-ltb, ltb-true, ltb-false, le-leb, leb-true}
use Rattle.basics.proofs.LawsChoice.{holds_or_not, lt_or_le, and_left, and_right}
use Rattle.basics.proofs.LawsLists.{all_alike}
use Rattle.std.specs.Prelude.{if◌then◌else◌}
use Rattle.basics.specs.Lists.{All, none, also}
use Rattle.kinds.specs.declared.HalfCents.{HalfCents}
use Rattle.rules.specs.declared.Resting.{Resting}
use Rattle.rules.specs.Book.{in_rank_order, ranks_before, apart}
use Rattle.rules.specs.Working.{beyond, reaches}
use Rattle.rules.proofs.LawsCommands.{not_beyond_itself}
use Rattle.rules.proofs.LawsRank.{ranked_first, rank_price}

-- an order, displayed or not, may rest at a price beside one of the opposite side
abbrev pub clear : Bool → Bool → HalfCents → Resting → Bool
clear buy shown price h = if shown && h.displayed then beyond buy price h.price else reaches buy h.price price

-- beside each order of the opposite side, and so each order of the own side
abbrev pub Clear : Bool → Bool → HalfCents → List Resting → Type 0
Clear buy shown price opposite = All (λ (h : Resting). clear buy shown price h ≡ true) opposite

abbrev pub Apart : Bool → List Resting → List Resting → Type 0
Apart buy own opposite = All (λ (o : Resting). Clear buy o.displayed o.price opposite) own

-- ── From the best orders to all ──

-- the best of a side and another of it: no better price, and at its own price displayed only if the best is
pub record Behind (buy : Bool) (x y : Resting) : Type 0 where
  pub worse : beyond buy x.price y.price ≡ false
  pub shown_first : x.price.0 ≡ y.price.0 → y.displayed ≡ true → x.displayed ≡ true

itself_behind : (buy : Bool) (x : Resting) → Behind buy x x
itself_behind buy x = record { worse = not_beyond_itself buy x.price; shown_first = λ e d. d }

shown_first_lem : (buy : Bool) (x y : Resting) → ranks_before buy x y ≡ true → x.price.0 ≡ y.price.0 → y.displayed ≡ true → x.displayed ≡ true
unfolding ranks_before
shown_first_lem buy x y r e d =
    ⊎_elim
    (λ (s : x.displayed ≡ true). s)
    (λ (s : x.displayed ≡ false). absurd (true≢false (sym (rw (eq-eqb x.price.0 y.price.0 e, d, s) at r))))
    (holds_or_not x.displayed)

pub no_worse : (buy : Bool) (x : Resting) (s : List Resting) → in_rank_order buy (x ∷ s) ≡ true → All (Behind buy x) (x ∷ s)
no_worse buy x s o =
    also (itself_behind buy x)
    (all_alike (λ y r. record { worse = rank_price buy x y r; shown_first = shown_first_lem buy x y r }) (ranked_first buy x s o))

empty_apart : (buys : List Resting) → Apart true buys []
empty_apart [] = none
empty_apart (b ∷ buys) = also none (empty_apart buys)

-- two best ones that are clear of each other, and two behind them
both_clear : (b s y z : Resting) → clear true b.displayed b.price s ≡ true → Behind true b y → Behind false s z
    → clear true y.displayed y.price z ≡ true
both_clear b s y z a k m =
    let u : y.price.0 ≤ b.price.0 = ltb-false b.price.0 y.price.0 k.worse in
    let v : s.price.0 ≤ z.price.0 = ltb-false z.price.0 s.price.0 m.worse in
    ⊎_elim
    (λ (t : (y.displayed && z.displayed) ≡ true).
    ⊎_elim
    (λ (l : y.price.0 < z.price.0). rw t (lt-ltb y.price.0 z.price.0 l))
    (λ (l : z.price.0 ≤ y.price.0).
    let w = not_crossed in
    let p : b.displayed ≡ true = k.shown_first (omega (arith, u, v, l, w)) (and_left y.displayed z.displayed t) in
    let q : s.displayed ≡ true = m.shown_first (omega (arith, u, v, l, w)) (and_right y.displayed z.displayed t) in
    let strict : b.price.0 < s.price.0 = ltb-true b.price.0 s.price.0 (rw (p, q) at a) in
    let no : ⊥ = omega (arith, u, v, l, strict) in
    absurd no)
    (lt_or_le y.price.0 z.price.0))
    (λ (t : (y.displayed && z.displayed) ≡ false). rw t (le-leb y.price.0 z.price.0 (omega (arith, u, v, not_crossed))))
    (holds_or_not (y.displayed && z.displayed))
  where
    not_crossed : b.price.0 ≤ s.price.0
    not_crossed =
        ⊎_elim
        (λ (t : (b.displayed && s.displayed) ≡ true).
        let l : b.price.0 < s.price.0 = ltb-true b.price.0 s.price.0 (rw t at a) in omega (arith, l))
        (λ (t : (b.displayed && s.displayed) ≡ false). leb-true b.price.0 s.price.0 (rw t at a))
        (holds_or_not (b.displayed && s.displayed))

pub apart_all : (buys sells : List Resting) → in_rank_order true buys ≡ true → in_rank_order false sells ≡ true → apart buys sells ≡ true → Apart true buys sells
unfolding apart
apart_all [] sells p q a = none
apart_all (b ∷ buys) [] p q a = empty_apart (b ∷ buys)
apart_all (b ∷ buys) (s ∷ sells) p q a =
    all_alike (λ y k. all_alike (λ z m. both_clear b s y z a k m) (no_worse false s sells q)) (no_worse true b buys p)

pub apart_best : (buys sells : List Resting) → Apart true buys sells → apart buys sells ≡ true
unfolding apart
apart_best [] sells a = refl
apart_best (b ∷ buys) [] a = refl
apart_best (b ∷ buys) (s ∷ sells) (also (also p more) others) = p

-- ── The same from the other side ──

clear_flip : (buy : Bool) (o h : Resting) → clear buy o.displayed o.price h ≡ clear (not buy) h.displayed h.price o
clear_flip buy o h =
    ⊎_elim
    (λ (s : o.displayed ≡ true).
    ⊎_elim (λ (t : h.displayed ≡ true). rw (s, t) (shown buy)) (λ (t : h.displayed ≡ false). rw (s, t) (hidden buy)) (holds_or_not h.displayed))
    (λ (s : o.displayed ≡ false).
    ⊎_elim (λ (t : h.displayed ≡ true). rw (s, t) (hidden buy)) (λ (t : h.displayed ≡ false). rw (s, t) (hidden buy)) (holds_or_not h.displayed))
    (holds_or_not o.displayed)
  where
    shown : (buy : Bool) → beyond buy o.price h.price ≡ beyond (not buy) h.price o.price
    shown true = refl
    shown false = refl

    hidden : (buy : Bool) → reaches buy h.price o.price ≡ reaches (not buy) o.price h.price
    hidden true = refl
    hidden false = refl

flip_one : (buy : Bool) (h : Resting) {opposite : List Resting} {own : List Resting} → Apart buy own (h ∷ opposite)
    → Clear (not buy) h.displayed h.price own
flip_one buy h none = none
flip_one buy h (also {x = o} (also p more) others) = also (sym (clear_flip buy o h) ∙ p) (flip_one buy h others)

rest_apart : (buy : Bool) (h : Resting) {opposite : List Resting} {own : List Resting} → Apart buy own (h ∷ opposite) → Apart buy own opposite
rest_apart buy h none = none
rest_apart buy h (also (also p more) others) = also more (rest_apart buy h others)

pub apart_flip : (buy : Bool) (own opposite : List Resting) → Apart buy own opposite → Apart (not buy) opposite own
apart_flip buy own [] a = none
apart_flip buy own (h ∷ opposite) a = also (flip_one buy h a) (apart_flip buy own opposite (rest_apart buy h a))
