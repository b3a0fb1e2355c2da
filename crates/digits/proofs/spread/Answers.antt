-- `digits::spread` meets its contract: the masks bound every sum. Assumes nothing.
use Prim.Native.Nat.{ℕ, ◌<◌}
use lib.Bits.{and_le_r}
use native.Mathlib.Omega.{arith}
use Rattle.digits.proofs.LawsSpread.{step₁, step₂, step₃, spread_is}
use Rattle.digits.proofs.spread.Goals as goal

-- what the masks keep has room where it is moved to
room₂ : (p : ℕ) → step₂ p < 0x1_0000_0000_0000_0000
room₂ p = omega (arith, and_le_r p 0x0000_00ff_0000_00ff, and_le_r p 0x0000_ff00_0000_ff00)

room₃ : (b : ℕ) → step₃ b < 0x1_0000_0000_0000_0000
room₃ b = omega (arith, and_le_r b 0x000f_000f_000f_000f, and_le_r b 0x00f0_00f0_00f0_00f0)

pub overflow_mul-b : goal.overflow_mul-b
overflow_mul-b c = record { fits = omega (arith, room₂ (step₁ c.args.x)) }

pub overflow_add-b : goal.overflow_add-b
overflow_add-b c = record { fits = room₂ (step₁ c.args.x) }

pub overflow_mul-result : goal.overflow_mul-result
overflow_mul-result c = record { fits = omega (arith, room₃ (step₂ (step₁ c.args.x))) }

pub overflow_add-result : goal.overflow_add-result
overflow_add-result c = record { fits = room₃ (step₂ (step₁ c.args.x)) }

pub returns : goal.returns
returns c = spread_is c.args.x c.ranges.x.fits
