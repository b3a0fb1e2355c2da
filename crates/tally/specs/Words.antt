-- The words for what stops a tally (02, W1): the reader's refusal of a line, or the sum that would pass 4,294,967,295.
use Rattle.std.specs.Prelude.{ℕ, List, codes}
use Rattle.rules.specs.declared.NoEvent.TheVariants.{UnknownKind, Short, TrailingBytes, BadDigitOrEnding}
use Rattle.tally.specs.declared.Stop.{Stop}
use Rattle.tally.specs.declared.Stop.TheVariants.{BadLine, ExecutedPasses, CancelledPasses}

abbrev pub words_of : Stop → List ℕ
words_of (BadLine UnknownKind) = codes "unknown kind"
words_of (BadLine Short) = codes "short"
words_of (BadLine TrailingBytes) = codes "trailing bytes"
words_of (BadLine BadDigitOrEnding) = codes "bad digit or ending"
words_of ExecutedPasses = codes "the sum of executed shares passes 4294967295"
words_of CancelledPasses = codes "the sum of cancelled shares passes 4294967295"
