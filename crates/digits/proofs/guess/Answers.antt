-- `digits::guess` meets its contract. Assumes nothing.
use native.Mathlib.Omega.{arith}
use Rattle.digits.proofs.LawsGuess.{guessed, guess_fits}
use Rattle.digits.proofs.guess.Goals as goal

pub overflow_mul-result : goal.overflow_mul-result
overflow_mul-result c = omega (arith, guess_fits c.args.x)

pub overflow_add-result : goal.overflow_add-result
overflow_add-result c = omega (arith, guess_fits c.args.x)

pub returns : goal.returns
returns c = guessed c.args.x
