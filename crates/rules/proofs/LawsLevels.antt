-- Laws of price levels: the holdings of a side are, price by price, the shown parts and then the reserves. This is the order in
-- which a loop over the places of a side goes, twice over each price; so a loop is held to it. Assumes nothing.
use Prim.Native.Nat.{ℕ}
use mathlib.Core.Bool.{true, false}
use mathlib.Core.List.{List, [], ◌∷◌, ◌++◌, map}
use mathlib.Core.Path.{◌≡◌, refl, ap, ◌∙◌, subst⁻¹}
use borrow.Author.Tests.{eqb-true}
use lib.Dec.{eqb}
use Rattle.basics.specs.Lists.{All, also}
use Rattle.basics.proofs.LawsChoice.{and_none}
use Rattle.rules.specs.declared.Resting.{Resting}
use Rattle.rules.specs.Holdings.{Holding, shown_part, reserve_part, behind_its_price, holdings}

-- orders at a price, and holdings that begin at another
abbrev pub AllAt : ℕ → List Resting → Type 0
AllAt p s = All (λ (o : Resting). eqb o.price.0 p ≡ true) s

pub data Elsewhere (p : ℕ) : List Holding → Type 0 where
  nobody : Elsewhere p []
  somebody : {s : List Holding} (h : Holding) → eqb h.of.price.0 p ≡ false → Elsewhere p (h ∷ s)

behind_none : (o : Resting) (m : List Resting) {hs : List Holding} → Elsewhere o.price.0 hs
    → behind_its_price (reserve_part o) (map reserve_part m ++ hs) ≡ reserve_part o ∷ (map reserve_part m ++ hs)
unfolding behind_its_price map ◌++◌
behind_none o [] nobody = refl
behind_none o [] (somebody h e) = rw e refl
behind_none o (x ∷ m) e = rw (and_none (eqb x.price.0 o.price.0)) refl

behind_level_lem : (o : Resting) (l m : List Resting) {hs : List Holding} → AllAt o.price.0 l → Elsewhere o.price.0 hs
    → behind_its_price (reserve_part o) (map shown_part l ++ (map reserve_part m ++ hs)) ≡ map shown_part l ++ (reserve_part o ∷ (map reserve_part m ++ hs))
unfolding behind_its_price map ◌++◌
behind_level_lem o [] m a e = behind_none o m e
behind_level_lem o (x ∷ l) m (also t a) e = rw t (ap (λ (s : List Holding). shown_part x ∷ s) (behind_level_lem o l m a e))

-- the orders of one price, and those behind them at others
pub level_holdings : (p : ℕ) (l s : List Resting) → AllAt p l → Elsewhere p (holdings s)
    → holdings (l ++ s) ≡ map shown_part l ++ (map reserve_part l ++ holdings s)
unfolding holdings map ◌++◌
level_holdings p [] s a e = refl
level_holdings p (o ∷ l) s (also t a) e =
    let q : o.price.0 ≡ p = eqb-true o.price.0 p t in
    let a' : AllAt o.price.0 l = subst⁻¹ (λ (k : ℕ). AllAt k l) q a in
    let e' : Elsewhere o.price.0 (holdings s) = subst⁻¹ (λ (k : ℕ). Elsewhere k (holdings s)) q e in
    ap (λ (u : List Holding). shown_part o ∷ u) (ap (behind_its_price (reserve_part o)) (level_holdings p l s a e) ∙ behind_level_lem o l l a' e')
