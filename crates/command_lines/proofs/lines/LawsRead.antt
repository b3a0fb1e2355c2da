-- What a read leaves stands within the room of the buffer. Assumes nothing.
use Prim.Native.Nat.{ℕ, zero, suc, ◌+◌, ◌≤◌, min}
use mathlib.Core.Path.{◌≡◌}
use lib.IntN.{ℤ, pos, negsuc}
use native.Mathlib.Omega.{arith}
use Rattle.command_lines.specs.declared.lines.Read.TheVariants.{Upto}
use Rattle.command_lines.specs.Pieces.{read_behind}

pub read_within : (got : ℤ) (have room end : ℕ) → read_behind got have room ≡ Upto end → end ≤ room
read_within (pos zero) have room end e = let z : ◌≡◌ {A = ℕ} 0 1 = cc in omega arith
read_within (pos (suc k)) have room end e = let d : min room (have + suc k) ≡ end = cc in omega arith
read_within (negsuc k) have room end e = let z : ◌≡◌ {A = ℕ} 0 1 = cc in omega arith
