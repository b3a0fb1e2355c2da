-- `digits::gather` meets its contract: its three steps are those of `gathers`. Assumes nothing.
use Prim.Native.Nat.{◌+◌, ◌/◌}
use mathlib.Core.Path.{refl}
use lib.Bits.{bit_and, and_le_r}
use native.Mathlib.Omega.{arith}
use Rattle.digits.proofs.LawsGather.{gathers, gather_fits}
use Rattle.digits.proofs.gather.Goals as goal

pub overflow_add-b : goal.overflow_add-b
overflow_add-b c = record { fits = gather_fits c.args.n c.requires (omega arith) }

pub overflow_add-p : goal.overflow_add-p
overflow_add-p c = let n = c.args.n in omega (arith, and_le_r (n + n / 16) 0x00ff00ff00ff00ff)

pub overflow_add-result : goal.overflow_add-result
overflow_add-result c =
    let n = c.args.n in
    let b = bit_and (n + n / 16) 0x00ff00ff00ff00ff in
    omega (arith, and_le_r (b + b / 256) 0x0000ffff0000ffff)

pub returns : goal.returns
returns c =
    let n = c.args.n in
    let b = bit_and (n + n / 16) 0x00ff00ff00ff00ff in
    gathers n c.requires b (bit_and (b + b / 256) 0x0000ffff0000ffff) refl refl
