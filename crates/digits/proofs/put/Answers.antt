-- `digits::put` meets its contract: the bytes of the word are all eight digits, of which the last are written. Assumes nothing.
use Prim.Native.Nat.{◌+◌, ◌-◌, ◌/◌, ◌^◌}
use mathlib.Core.Path.{◌≡◌, ap, ◌∙◌}
use lib.ListN.{take, drop}
use lib.Seq.{take_all}
use native.Mathlib.Omega.{arith}
use Rattle.basics.specs.Bytes.{onto}
use Rattle.digits.specs.Digits.{digit_of, digits}
use Rattle.digits.specs.Words.{each_byte, spread_of}
use Rattle.digits.proofs.LawsDigits.{length_digits}
use Rattle.digits.proofs.LawsSpread.{spread_low, word_digits, last_digits}
use Rattle.digits.proofs.put.Goals as goal

pub spell-requires : goal.spell-requires
spell-requires c = rw c.spread.ensures (spread_low 8 c.args.x)

pub returns : goal.returns
unfolding onto
returns c =
    let a = c.args in
    let few : 8 - (8 - a.k) ≡ a.k = omega arith in
    let all : 8 - a.k + a.k ≡ 8 = omega arith in
    let last : take (8 - (8 - a.k)) (drop (8 - a.k) (digits 8 a.x)) ≡ digits a.k a.x =
    rw few (ap (take a.k) (rw all at (last_digits (8 - a.k) a.k a.x)) ∙ take_all a.k (digits a.k a.x) (omega (arith, length_digits a.k a.x))) in
    let y = c.spell.result in
    let whole : y / 256 ^ 0 ≡ each_byte digit_of 8 (spread_of 8 a.x) = omega arith ∙ c.spell.ensures ∙ ap (each_byte digit_of 8) c.spread.ensures in
    let eight : c.to_le_bytes-eight.result ≡ digits 8 a.x = c.to_le_bytes-eight.ensures ∙ word_digits 8 0 a.x y whole in
    rw (c.copy_from_slice.ensures.after, eight, last, length_digits a.k a.x)
