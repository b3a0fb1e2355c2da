-- `command_lines::lines::after_read` meets its contract. What the machine reads back from the bits of `got` is `got`, since it fits them. Assumes nothing.
use Prim.Native.Nat.{ℕ, zero, suc, ◌+◌, ◌-◌, ◌≤◌, ◌<◌, min}
use mathlib.Core.Bool.{true, false}
use mathlib.Core.Path.{◌≡◌, refl, ap}
use lib.Dec.{T}
use lib.IntN.{ℤ, pos, negsuc, nat_abs}
use lib.Signed.{lt_z, non_neg}
use mir.Syntax.{w64}
use mir.Val.{Fits, SFits, to_z, of_z}
use mir.ValLaws.{to_z-of_z}
use native.Mathlib.Omega.{arith}
use borrow.Author.Tests.{ltb-true}
use Rattle.command_lines.specs.declared.lines.Read.TheVariants.{Failed, Ended, Upto}
use Rattle.command_lines.specs.Pieces.{read_behind}
use Rattle.command_lines.proofs.lines.after_read.Goals as goal
use Rattle.command_lines.proofs.lines.after_read.Goals.{Else-got-lt0, Start}

-- a number that is not negative is its own size, which fits
sized : (got : ℤ) → lt_z got (pos 0) ≡ false → SFits w64 got → T (non_neg got) × Fits w64 (nat_abs got)
sized (pos n) t f = (tt, omega (arith, f.sfits))
sized (negsuc n) t f = let z : ◌≡◌ {A = ℕ} 0 1 = cc in omega arith

module _ (have room : ℕ) where
  failed : (got : ℤ) → lt_z got (pos 0) ≡ true → Failed ≡ read_behind got have room
  failed (pos n) t = let z : ⊥ = omega (arith, ltb-true n 0 t) in absurd z
  failed (negsuc n) t = refl

  ended : (got : ℤ) → lt_z got (pos 0) ≡ false → of_z w64 got ≡ 0 → Ended ≡ read_behind got have room
  ended (pos zero) t e = refl
  ended (pos (suc n)) t e = let z : ⊥ = omega arith in absurd z
  ended (negsuc n) t e = cc

  upto : (got : ℤ) (end : ℕ) → lt_z got (pos 0) ≡ false → (of_z w64 got ≡ 0 → ⊥) → end ≡ min room (have + nat_abs got)
      → Upto end ≡ read_behind got have room
  upto (pos zero) end t n e = absurd (n refl)
  upto (pos (suc k)) end t n e = ap Upto e
  upto (negsuc k) end t n e = cc

back : (c : Start) → to_z w64 (of_z w64 c.args.got) ≡ c.args.got
back c = to_z-of_z w64 c.args.got c.ranges.got

not_negative : (c : Else-got-lt0) → lt_z c.args.got (pos 0) ≡ false
not_negative c = rw (back c.before) at c.if-got-lt0.false

pub returns-then-got-lt0 : goal.returns-then-got-lt0
returns-then-got-lt0 c = let a = c.args in failed a.have a.room a.got (rw (back (goal.at.returns-then-got-lt0 c).Start) at c.if-got-lt0.true)

pub returns-then-got-eq0 : goal.returns-then-got-eq0
returns-then-got-eq0 c = let a = c.args in ended a.have a.room a.got (not_negative (goal.at.returns-then-got-eq0 c).Else-got-lt0) c.if-got-eq0.true

pub overflow_cast-more : goal.overflow_cast-more
overflow_cast-more c = rw (back (goal.at.overflow_cast-more c).Start) (sized c.args.got (not_negative (goal.at.overflow_cast-more c).Else-got-lt0) c.ranges.got)

pub returns-then-room-have : goal.returns-then-room-have
returns-then-room-have c =
    let a = c.args in
    let h : a.room - a.have < nat_abs a.got = rw (back (goal.at.returns-then-room-have c).Start) at c.if-room-have.true in
    upto a.have a.room a.got a.room (not_negative (goal.at.returns-then-room-have c).Else-got-lt0) c.if-got-eq0.false (omega arith)

pub returns : goal.returns
returns c =
    let here = (goal.at.returns c).Start in
    let a = c.args in
    let h : nat_abs a.got ≤ a.room - a.have = rw (back here) at c.if-room-have.false in
    rw (back here)
    (upto a.have a.room a.got (a.have + nat_abs a.got) (not_negative (goal.at.returns c).Else-got-lt0) c.if-got-eq0.false (omega arith))
