-- `judge::instructions::lawful` meets its contract: each call says what the definition says at its place. Assumes nothing.
use Rattle.rules.specs.Instructions.{lawful}
use Rattle.judge.proofs.instructions.lawful.Goals as goal

pub returns : goal.returns
unfolding lawful
returns c =
    rw (
      c.has-13.ensures,
      c.has-12.ensures,
      c.has-11.ensures,
      c.has-10.ensures,
      c.has-9.ensures,
      c.has-8.ensures,
      c.has-7.ensures,
      c.has-6.ensures,
      c.has-5.ensures,
      c.has-4.ensures,
      c.has-3.ensures,
      c.has-2.ensures,
      c.has.ensures,
      c.one_of-3.ensures,
      c.one_of-2.ensures,
      c.one_of.ensures,
    )
