-- A side of which nothing is taken stays as it is. Assumes nothing.
use Prim.Native.Nat.{ℕ, ◌-◌, min}
use mathlib.Core.Bool.{false}
use mathlib.Core.List.{List, ◌∷◌}
use mathlib.Core.Path.{◌≡◌, refl, ap}
use lib.Dec.{eqb}
use native.Mathlib.Omega.{arith}
use borrow.Author.Tests.{ne_eqb}
use Rattle.basics.specs.Lists.{none, also, Each}
use Rattle.basics.proofs.LawsLists.{all_always}
use Rattle.rules.specs.declared.Resting.{Resting}
use Rattle.rules.specs.Book.{shares_left}
use Rattle.rules.specs.Holdings.{Holding, holdings, nothing, keeping, after}
use Rattle.rules.proofs.LawsHoldings.{Parts, each_parts}
use Rattle.rules.proofs.LawsTakings.{nothing_each}
use Rattle.soundness.proofs.LawsThinned.{Standing}

-- who gives nothing stays as he is
pub after_nothing : {s : List Resting} → Standing s → after s (nothing (holdings s)) ≡ s
unfolding after keeping
after_nothing {s = s} a =
    let idle : Each (λ (h : Holding) (t : ℕ). t ≡ 0) (holdings s) (nothing (holdings s)) = nothing_each (all_always (λ h. refl) (holdings s)) in
    kept a (each_parts s (nothing (holdings s)) idle)
  where
    kept : {s : List Resting} {ts rs : List ℕ} → Standing s → Parts (λ (h : Resting) (t r : ℕ). (t ≡ 0) × (r ≡ 0)) s ts rs → keeping s ts rs ≡ s
    kept none Parts.none = refl
    kept (also p a) (Parts.also {o = h} {t = t} {r = r} z w) =
        let shown : h.shares.0 - t ≡ h.shares.0 = omega (arith, z.0) in
        let reserve : h.reserve.0 - r ≡ h.reserve.0 = omega (arith, z.1) in
        let some : eqb (shares_left h) 0 ≡ false = ne_eqb (shares_left h) 0 (λ (e : shares_left h ≡ 0). omega (arith, p.is_left)) in
        let cut : min h.minimum.0 (shares_left h) ≡ h.minimum.0 = omega (arith, p.least) in
        rw (shown, reserve, some, cut) (ap (λ (l : List Resting). h ∷ l) (kept a w))
