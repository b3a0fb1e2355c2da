-- Demand 3 determines the fills: two outcomes of an order that both meet `Executes` have the very same executions, line by line; so they give
-- each resting order the same, and execute the same in all. So does W7's demand 3, of `ExecutesInRank` (02). Assumes nothing.
use Prim.Native.Nat.{ℕ, ◌+◌, ◌-◌, ◌≤◌, ◌<◌}
use mathlib.Core.Bool.{Bool, true, false, not}
use mathlib.Core.List.{List, [], ◌∷◌}
use mathlib.Core.Logic.{⊎_elim}
use mathlib.Core.Path.{◌≡◌, refl, sym, ap, subst, ◌∙◌}
use lib.Dec.{eqb}
use native.Mathlib.Omega.{arith}
use borrow.Author.Tests.{eq-eqb, eqb-false}
use Rattle.std.specs.Prelude.{if◌then◌else◌}
use Rattle.basics.specs.Lists.{sum_of, gathered, All, none, also, OneOf, Each, empty, with}
use Rattle.basics.proofs.LawsChoice.{holds_or_not, lt_or_le}
use Rattle.basics.proofs.LawsLists.{one_of_all}
use Rattle.kinds.specs.declared.HalfCents.{HalfCents}
use Rattle.kinds.specs.declared.Number.{Number}
use Rattle.kinds.specs.Kinds.{shares}
use Rattle.rules.specs.declared.Command.{Command}
use Rattle.rules.specs.declared.Event.{Event}
use Rattle.rules.specs.declared.Event.TheVariants.{Executed, Rested, Cancelled, Moved}
use Rattle.rules.specs.declared.Order.{Order}
use Rattle.rules.specs.declared.Resting.{Resting}
use Rattle.rules.specs.Book.{Book, in_rank_order, sound}
use Rattle.rules.specs.Holdings.{Holding, size, walks_before, BeforeAll, InWalkOrder, nobody, somebody}
use Rattle.rules.specs.Working.{Met, buying, met_by, minimum_of}
use Rattle.rules.proofs.LawsWalkOrder.{holdings_walk}
use Rattle.soundness.proofs.LawsSides.{sides_of}
use Rattle.soundness.proofs.LawsSound.{sound_is}
use Rattle.demands.specs.Executes.{executions_in, lines_of, Executes}
use Rattle.demands.specs.Minimum.{MayGive, WalksInRank, at_the_end, ends, skips, ExecutesInRank}
use Rattle.demands.specs.ShareOut.{opposite, Given, Beside, here, later, Fair, PriceHere, LawfulGiving, given}
use Rattle.demands.specs.Told.{executed_in, given_in, is_killed}
use Rattle.demands.proofs.LawsPriceHere.{here_is}
use Rattle.demands.proofs.LawsShareOut.{beside_there}

-- ── Two share-outs of holdings in the order of the walk ──

-- one line, where the shares are the same and, of a line, the price
line_same : (n m : Number) {p q : HalfCents} (j k : ℕ) {es fs : List Event} → j ≡ k → (0 < j → p ≡ q) → es ≡ fs
    → (if eqb j 0 then es else Executed n m p (shares j) ∷ es) ≡ (if eqb k 0 then fs else Executed n m q (shares k) ∷ fs)
line_same n m {q = q} j k {es = es} {fs = fs} e price same =
    rw (← e)
    (⊎_elim
    (λ (z : eqb j 0 ≡ true). rw z same)
    (λ (z : eqb j 0 ≡ false). rw z (rw (price (omega (arith, eqb-false j 0 z)), same) refl))
    (holds_or_not (eqb j 0)))

module _ (buy : Bool) (o : Order) (met : Met) where
  -- some holding gives a share, if all give one together
  some_gives : {P : Type 0} {hs : List Holding} {gs : List Given} → Each (LawfulGiving o met.away met.own) hs gs → 0 < given gs
      → ((h : Holding) (g : Given) → Beside h g hs gs → 0 < g.shares → P) → P
  unfolding sum_of
  some_gives empty l f = let z : ⊥ = omega (arith, l) in absurd z
  some_gives (with {x = h} {y = g} lawful e) l f =
      ⊎_elim
      (λ (p : 0 < g.shares). f h g here p)
      (λ (p : g.shares ≤ 0). some_gives e (omega (arith, l, p)) (λ x k q. f x k (later q)))
      (lt_or_le 0 g.shares)

  -- none gives a share while one that the walk reaches before it, and that could lawfully give, keeps one
  abbrev GivesByRank : List Holding → List Given → Type 0
  GivesByRank hs gs = (better worse : Holding) (gives takes : Given) → Beside better gives hs gs → Beside worse takes hs gs
      → walks_before buy better worse ≡ true → 0 < takes.shares → (price : HalfCents) → PriceHere o met.own better.of price
      → Fair o met.away price → gives.shares ≡ size better

  later_rank : {h : Holding} {hs : List Holding} {g : Given} {gs : List Given} → GivesByRank (h ∷ hs) (g ∷ gs) → GivesByRank hs gs
  later_rank r better worse gives takes p q = r better worse gives takes (later p) (later q)

  -- the first does not give less than it does otherwise: others would give a share in its stead, while it keeps one that it may give
  first_no_less : {h : Holding} {hs : List Holding} {f g : Given} {fs : List Given} (gs : List Given) → BeforeAll buy h hs → GivesByRank (h ∷ hs) (f ∷ fs)
      → Each (LawfulGiving o met.away met.own) hs fs → LawfulGiving o met.away met.own h g → f.shares + given fs ≡ g.shares + given gs → g.shares ≤ f.shares
  first_no_less {h = h} {f = f} {g = g} gs before r others w e =
      ⊎_elim
      (λ (l : f.shares < g.shares).
      some_gives others (omega (arith, l, e))
      (λ x k p gives.
      let some : 0 < g.shares = omega (arith, l) in
      let whole = r h x f k here (later p) (one_of_all before (beside_there p)) gives g.price (w.at_its_price some) (w.fair some) in
      omega (arith, whole, w.no_more, l)))
      (λ (l : g.shares ≤ f.shares). l)
      (lt_or_le f.shares g.shares)

  -- so two share-outs that give the same in all are told by the same lines
  lines_agree : (n : Number) {hs : List Holding} {fs gs : List Given} → InWalkOrder buy hs → GivesByRank hs fs → GivesByRank hs gs
      → Each (LawfulGiving o met.away met.own) hs fs → Each (LawfulGiving o met.away met.own) hs gs → given fs ≡ given gs → lines_of n hs fs ≡ lines_of n hs gs
  unfolding sum_of lines_of
  lines_agree n nobody r q empty empty e = refl
  lines_agree n (somebody {h = h} before w) r q (with {y = f} {u = fs} l others) (with {y = g} {u = gs} k more) e =
      let least = first_no_less gs before r others k e in
      let most = first_no_less fs before q more l (sym e) in
      let same : f.shares ≡ g.shares = omega (arith, least, most) in
      line_same n h.of.number f.shares g.shares same
      (λ (p : 0 < f.shares).
      here_is o met h.of f.price (l.at_its_price p) ∙ sym (here_is o met h.of g.price (k.at_its_price (omega (arith, p, same)))))
      (lines_agree n w (later_rank r) (later_rank q) others more (omega (arith, same, e)))

-- ── Two outcomes of an order ──

-- what an order gives is told by the executions alone
given_executions : (n : Number) (es : List Event) → given_in n es ≡ given_in n (executions_in es)
unfolding sum_of gathered
given_executions n [] = refl
given_executions n (Executed incoming resting price shares ∷ es) = omega (arith, given_executions n es)
given_executions n (Rested m price shares ∷ es) = omega (arith, given_executions n es)
given_executions n (Cancelled m shares reason ∷ es) = omega (arith, given_executions n es)
given_executions n (Moved m price shares ∷ es) = omega (arith, given_executions n es)

module _ (stood : Book) (c : Command) (o : Order) where
  -- an order that is killed in one outcome is killed in the other ..
  killed_too : (es fs : List Event) → Executes stood c o es → Executes stood c o fs → is_killed c.number es ≡ true → is_killed c.number fs ≡ true
  killed_too es fs x y k = y.killed_if (x.only_fok k) (x.killed_only k)

  -- .. so neither outcome executes more than the other: nothing, or the greatest lawful total
  executed_at_most : (es fs : List Event) → Executes stood c o es → Executes stood c o fs → executed_in c.number es ≤ executed_in c.number fs
  executed_at_most es fs x y =
      ⊎_elim
      (λ (k : is_killed c.number fs ≡ true). omega (arith, x.killed_nothing (killed_too fs es y x k)))
      (λ (k : is_killed c.number fs ≡ false). omega (arith, x.in_all, y.greatest k x.share_out x.is_lawful))
      (holds_or_not (is_killed c.number fs))

-- where the opposite side is in rank order (of soundness no more is needed), demand 3 determines the executions, what each of the side gives, and
-- what is executed in all
pub ranked_fills_determined : (stood : Book) (c : Command) (o : Order) (es fs : List Event)
    → in_rank_order (not (buying o)) (opposite o stood) ≡ true → Executes stood c o es → Executes stood c o fs
    → ((h : Resting) → OneOf h (opposite o stood) → given_in h.number es ≡ given_in h.number fs)
    × (executed_in c.number es ≡ executed_in c.number fs)
    × (executions_in es ≡ executions_in fs)
ranked_fills_determined stood c o es fs ranked x y =
    let in_all : executed_in c.number es ≡ executed_in c.number fs =
    omega (arith, executed_at_most stood c o es fs x y, executed_at_most stood c o fs es y x) in
    let same : executions_in es ≡ executions_in fs =
    x.told
    ∙ lines_agree (not (buying o)) o (met_by o stood) c.number (holdings_walk (not (buying o)) (opposite o stood) ranked)
    (λ better worse gives takes p q before some price.
    x.in_rank {better = better} {worse = worse} {gives = gives} {takes = takes} p q before some {price = price})
    (λ better worse gives takes p q before some price.
    y.in_rank {better = better} {worse = worse} {gives = gives} {takes = takes} p q before some {price = price})
    x.is_lawful.each y.is_lawful.each (omega (arith, in_all, x.in_all, y.in_all))
    ∙ sym y.told in
    (λ h p. given_executions h.number es ∙ ap (given_in h.number) same ∙ sym (given_executions h.number fs), in_all, same)

-- .. so it does on a sound book
pub fills_determined : (stood : Book) (c : Command) (o : Order) (es fs : List Event) → sound stood ≡ true
    → Executes stood c o es → Executes stood c o fs
    → ((h : Resting) → OneOf h (opposite o stood) → given_in h.number es ≡ given_in h.number fs)
    × (executed_in c.number es ≡ executed_in c.number fs)
    × (executions_in es ≡ executions_in fs)
fills_determined stood c o es fs s =
    ranked_fills_determined stood c o es fs (sides_of (buying o) stood (sound_is stood s)).opposite_ranked

-- ── With minimums (02, W7) ──

-- what gives no share has no line
no_lines : (n : Number) (hs : List Holding) {gs : List Given} → All (λ (g : Given). g.shares ≡ 0) gs
    → (given gs ≡ 0) × (lines_of n hs gs ≡ [])
unfolding sum_of lines_of
no_lines n [] none = (refl, refl)
no_lines n [] (also z a) = (omega (arith, z, (no_lines n [] a).0), refl)
no_lines n (h ∷ hs) none = (refl, refl)
no_lines n (h ∷ hs) (also {x = g} z a) =
    let others = no_lines n hs a in
    (omega (arith, z, others.0), rw (eq-eqb g.shares 0 z) others.1)

module _ (o : Order) (met : Met) (n : Number) where
  -- whoever gives may give
  gives_may : (h : Holding) {price : HalfCents} → PriceHere o met.own h.of price → Fair o met.away price
      → MayGive o met.away met.own h
  gives_may h {price = price} at fair = record { price = price; here = at; fair = fair }

  -- a walk in rank order gives what it gives, by the same lines
  walks_agree : {left : ℕ} {hs : List Holding} {fs gs : List Given} → WalksInRank o met.away met.own left hs fs
      → WalksInRank o met.away met.own left hs gs → (given fs ≡ given gs) × (lines_of n hs fs ≡ lines_of n hs gs)
  unfolding sum_of lines_of
  walks_agree at_the_end at_the_end = (refl, refl)
  walks_agree (ends {h = h} {hs = hs} x zs) (ends y us) =
      let f = no_lines n (h ∷ hs) zs in
      let g = no_lines n (h ∷ hs) us in
      (f.0 ∙ sym g.0, f.1 ∙ sym g.1)
  walks_agree (ends x zs) (skips may l z w) = absurd (x may)
  walks_agree (ends {h = h} x zs) (WalksInRank.gives at fair l e w) = absurd (x (gives_may h at fair))
  walks_agree (skips may l z w) (ends y us) = absurd (y may)
  walks_agree (WalksInRank.gives {h = h} at fair l e w) (ends y us) = absurd (y (gives_may h at fair))
  walks_agree (skips may l z w) (WalksInRank.gives at fair k e v) = let no : ⊥ = omega (arith, l, k) in absurd no
  walks_agree (WalksInRank.gives at fair k e v) (skips may l z w) = let no : ⊥ = omega (arith, l, k) in absurd no
  walks_agree (skips {h = h} {g = f} may l z w) (skips {g = g} also-may k u v) =
      let others = walks_agree w v in
      (omega (arith, z, u, others.0), rw (eq-eqb f.shares 0 z, eq-eqb g.shares 0 u) others.1)
  walks_agree (WalksInRank.gives {left = left} {h = h} {hs = hs} {g = f} at fair l e w) (WalksInRank.gives {g = g} {gs = gs} there x k d v) =
      let same : f.shares ≡ g.shares = omega (arith, e, d) in
      let again : WalksInRank o met.away met.own (left - f.shares) hs gs =
      subst (λ (taken : ℕ). WalksInRank o met.away met.own (left - taken) hs gs) (sym same) v in
      let others = walks_agree w again in
      let price = here_is o met h.of f.price at ∙ sym (here_is o met h.of g.price there) in
      (omega (arith, same, others.0), line_same n h.of.number f.shares g.shares same (λ some. price) others.1)

-- what an order executes is told by the executions alone
executed_executions : (n : Number) (es : List Event) → executed_in n es ≡ executed_in n (executions_in es)
unfolding sum_of gathered
executed_executions n [] = refl
executed_executions n (Executed incoming resting price shares ∷ es) = omega (arith, executed_executions n es)
executed_executions n (Rested m price shares ∷ es) = omega (arith, executed_executions n es)
executed_executions n (Cancelled m shares reason ∷ es) = omega (arith, executed_executions n es)
executed_executions n (Moved m price shares ∷ es) = omega (arith, executed_executions n es)

-- so W7's demand 3 determines, on any book, whether the order is killed, the executions, and so what each order gives and executes
pub in_rank_fills_determined : (stood : Book) (c : Command) (o : Order) (es fs : List Event) → ExecutesInRank stood c o es
    → ExecutesInRank stood c o fs
    → ((n : Number) → given_in n es ≡ given_in n fs) × ((n : Number) → executed_in n es ≡ executed_in n fs)
    × (is_killed c.number es ≡ is_killed c.number fs) × (executions_in es ≡ executions_in fs)
in_rank_fills_determined stood c o es fs x y =
    let n = c.number in
    let agree = walks_agree o (met_by o stood) n x.walks y.walks in
    let forth = killed_alike x y agree.0 in
    let back = killed_alike y x (sym agree.0) in
    let same : executions_in es ≡ executions_in fs =
    ⊎_elim
    (λ (k : is_killed n es ≡ true). (x.killed_nothing k).0 ∙ sym (y.killed_nothing (forth k)).0)
    (λ (k : is_killed n es ≡ false).
    ⊎_elim
    (λ (l : given x.walk < minimum_of o.carried). x.below_nothing (omega (arith, l)) ∙ sym (y.below_nothing (omega (arith, l, agree.0))))
    (λ (l : minimum_of o.carried ≤ given x.walk).
    let lives = sym (both (is_killed n es) (is_killed n fs) forth back) ∙ k in
    (x.otherwise k l).0 ∙ agree.1 ∙ sym (y.otherwise lives (omega (arith, l, agree.0))).0)
    (lt_or_le (given x.walk) (minimum_of o.carried)))
    (holds_or_not (is_killed n es)) in (
      λ m. given_executions m es ∙ ap (given_in m) same ∙ sym (given_executions m fs),
      λ m. executed_executions m es ∙ ap (executed_in m) same ∙ sym (executed_executions m fs),
      both (is_killed n es) (is_killed n fs) forth back,
      same,
    )
  where
    killed_alike : {es fs : List Event} (x : ExecutesInRank stood c o es) (y : ExecutesInRank stood c o fs)
        → given x.walk ≡ given y.walk → is_killed c.number es ≡ true → is_killed c.number fs ≡ true
    killed_alike x y e k = let (is_fok, short) = x.killed_only k in y.killed_if is_fok (omega (arith, short, e))

    both : (a b : Bool) → (a ≡ true → b ≡ true) → (b ≡ true → a ≡ true) → a ≡ b
    both true b f g = sym (f refl)
    both false true f g = g refl
    both false false f g = refl
