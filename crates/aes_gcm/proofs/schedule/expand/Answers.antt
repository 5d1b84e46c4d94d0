use Rattle.std.proofs.Common.{◌≡◌, ◌+◌, ◌-◌, ◌*◌, ◌∙◌, take, arith, rules, refl, sym}
use Rattle.std.proofs.lemmas.List.{take_all}
use borrow.Rule.Slice.PartMut.{put_mid}
use Rattle.aes_gcm.specs.Cipher.{expanded_key, expansion}
use Rattle.aes_gcm.proofs.CipherLemmas.{words_more}
use Rattle.aes_gcm.proofs.schedule.expand.Goals as goal

pub loop-i-init : goal.loop-i-init
unfolding expansion
loop-i-init c = refl

pub loop-i-preserved : goal.loop-i-preserved
loop-i-preserved c =
    let i = c.loop-i.i in
    let words = c.loop-i.words in
    let word = c.next_word-word.result in
    rw c.copy_from_slice.ensures.after
    (words_more (take 32 c.args.words.now) words
    (put_mid (4 * i) (4 * i + 4 - 4 * i) words word) word i
    (omega arith) (omega arith) (search rules) c.loop-i.invariant c.next_word-word.ensures refl)

pub returns : goal.returns
unfolding expanded_key
returns c =
    let all : c.loop-i.i ≡ 60 = omega (arith, c.loop-i.auto.i-end) in
    sym (take_all 240 c.loop-i.words (omega arith)) ∙ (rw all at c.loop-i.invariant)
