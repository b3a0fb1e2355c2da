-- What a quote (02, W2) does to one order of a side: who crosses the away quote, and the fate that it has by that; and at which place among
-- a command's moves an order is set anew. Assumes nothing.
use Prim.Native.Nat.{ℕ, suc, ◌≤◌, ◌<◌}
use mathlib.Core.Bool.{Bool, true, false, not, ◌&&◌, true≢false}
use mathlib.Core.List.{List}
use mathlib.Core.Logic.{◌≢◌, ⊎_elim}
use mathlib.Core.Path.{◌≡◌, refl, sym, ◌∙◌}
use native.Mathlib.Omega.{arith}
use borrow.Author.Tests.{eqb-false, lt-ltb, ltb-true, not-true}
use Rattle.basics.specs.Lists.{OneOf, first, later}
use Rattle.basics.proofs.LawsChoice.{holds_or_not, and_left}
use Rattle.kinds.specs.declared.Cents.{Cents}
use Rattle.kinds.specs.Kinds.{in_half_cents}
use Rattle.rules.specs.declared.Away.{Away}
use Rattle.rules.specs.declared.Reason.TheVariants.{CancelledBack}
use Rattle.rules.specs.declared.Resting.{Resting}
use Rattle.rules.specs.Commands.{would_now_cross, quote_fate}
use Rattle.rules.specs.declared.Fate.{Fate}
use Rattle.rules.specs.declared.Fate.TheVariants.{Stays, IsCancelled, IsSet}
use Rattle.rules.specs.Reasons.{number_of_reason}
use Rattle.rules.specs.Settling.{set_at}
use Rattle.rules.specs.Working.{beyond, locking_price, absent}
use Rattle.rules.proofs.LawsCommands.{quote_fate_lem, crosses_present, crosses_beyond}
use Rattle.soundness.proofs.LawsSettled.{next_place, set_place}
use Rattle.demands.specs.Quoted.{locking, Crosses, a_buy, a_sell}
use Rattle.demands.proofs.LawsLinesTell.{place}
use Rattle.demands.proofs.LawsShareOut.{present_is}

-- ── Who crosses ──

-- the Locking Price has one meaning
pub locking_is : (buy : Bool) (away : Away) → locking buy away ≡ locking_price buy away
locking_is true away = refl
locking_is false away = refl

-- what is there in half cents is there
is_present : (p : Cents) → absent (in_half_cents p) ≡ false → p.0 ≢ 0
is_present p present z = eqb-false (in_half_cents p).0 0 present (omega (arith, z))

-- who crosses would now cross by the rules' test ..
crosses_would : {away : Away} {h : Resting} {buy : Bool} → Crosses away h buy → would_now_cross buy away h ≡ true
crosses_would {away = away} {h = h} (a_buy hidden present above) =
    rw (hidden, present_is away.offer present, lt-ltb (in_half_cents away.offer).0 h.price.0 above) refl
crosses_would {away = away} {h = h} (a_sell hidden present below) =
    rw (hidden, present_is away.bid present, lt-ltb h.price.0 (in_half_cents away.bid).0 below) refl

-- .. and who would, crosses
pub would_cross_lem : (buy : Bool) (away : Away) (h : Resting) → would_now_cross buy away h ≡ true → Crosses away h buy
would_cross_lem buy away h t =
    let price = locking_price buy away in
    let both = and_left (not h.displayed && not (absent price)) (beyond buy price h.price) t in
    let hidden = not-true h.displayed (and_left (not h.displayed) (not (absent price)) both) in
    by_side buy hidden (crosses_present buy away h t) (crosses_beyond buy away h t)
  where
    by_side : (buy : Bool) → h.displayed ≡ false → absent (locking_price buy away) ≡ false
        → beyond buy (locking_price buy away) h.price ≡ true → Crosses away h buy
    by_side true hidden present past =
        a_buy hidden (is_present away.offer present) (ltb-true (in_half_cents away.offer).0 h.price.0 past)
    by_side false hidden present past =
        a_sell hidden (is_present away.bid present) (ltb-true h.price.0 (in_half_cents away.bid).0 past)

-- so who does not by that test does not cross
pub not_crossing : {P : Type 0} {away : Away} {h : Resting} {buy : Bool} → would_now_cross buy away h ≡ false → Crosses away h buy → P
not_crossing alone crosses = absurd (true≢false (sym (crosses_would crosses) ∙ alone))

-- "a non-displayed order"
pub crosses_hidden : {away : Away} {h : Resting} {buy : Bool} → Crosses away h buy → h.displayed ≡ false
crosses_hidden (a_buy hidden present above) = hidden
crosses_hidden (a_sell hidden present below) = hidden

-- ── The fate of an order by a quote ──

-- it stays if it does not cross; if it does, it is cancelled with Cancel Back, and else set at the Locking Price
abbrev pub QuoteSays : Bool → Away → Resting → Fate → Type 0
QuoteSays buy away h Stays = Crosses away h buy → ⊥
QuoteSays buy away h (IsCancelled reason) = Unit {0}
QuoteSays buy away h (IsSet new) = Crosses away h buy × (h.back ≡ false) × (set_at (locking_price buy away) h ≡ new)

pub quote_says : (buy : Bool) (away : Away) (h : Resting) → QuoteSays buy away h (quote_fate away buy h)
quote_says buy away h =
    quote_fate_lem (QuoteSays buy away h) away buy h (λ t. not_crossing t) (λ t b. tt) (λ t b. (would_cross_lem buy away h t, b, refl))

pub left_alone : (buy : Bool) (away : Away) (h : Resting) → (Crosses away h buy → ⊥) → quote_fate away buy h ≡ Stays
left_alone buy away h not =
    ⊎_elim
    (λ (t : would_now_cross buy away h ≡ true). absurd (not (would_cross_lem buy away h t)))
    (λ (t : would_now_cross buy away h ≡ false). rw t refl)
    (holds_or_not (would_now_cross buy away h))

module _ {away : Away} {h : Resting} {buy : Bool} (crosses : Crosses away h buy) where
  pub set_anew_lem : h.back ≡ false → quote_fate away buy h ≡ IsSet (set_at (locking_price buy away) h)
  set_anew_lem b = rw (crosses_would crosses, b) refl

  pub gone_back : h.back ≡ true → quote_fate away buy h ≡ IsCancelled (number_of_reason CancelledBack)
  gone_back b = rw (crosses_would crosses, b) refl

-- ── The places of those that are set anew ──

module _ (fate : Resting → Fate) where
  -- they begin with k ..
  set_place_from : {x : Resting} {s : List Resting} (k : ℕ) (p : OneOf x s) → k ≤ set_place fate k p
  set_place_from k first = omega arith
  set_place_from k (later {y = y} p) = omega (arith, by_fate (fate y), set_place_from (next_place (fate y) k) p)
    where
      by_fate : (f : Fate) → k ≤ next_place f k
      by_fate Stays = omega arith
      by_fate (IsCancelled reason) = omega arith
      by_fate (IsSet new) = omega arith

  -- .. and rise: who stands before another is set before it
  pub set_place_rises : {x y new : Resting} {s : List Resting} (k : ℕ) (p : OneOf x s) (q : OneOf y s) → fate x ≡ IsSet new → place p < place q
      → set_place fate k p < set_place fate k q
  set_place_rises k first first e l = let z : ⊥ = omega arith in absurd z
  set_place_rises k first (later q) e l = rw e (set_place_from (suc k) q)
  set_place_rises k (later p) first e l = let z : ⊥ = omega arith in absurd z
  set_place_rises k (later {y = h} p) (later q) e l = set_place_rises (next_place (fate h) k) p q e (omega arith)
