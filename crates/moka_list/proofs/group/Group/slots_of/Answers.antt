use Rattle.std.proofs.Common.{◌≡◌, ◌∙◌, ℕ, ◌/◌, ◌%◌, ◌^◌, nat_eq, take, length, ap, arith, rules}
use Rattle.std.specs.Prelude.{bit_and, min}
use Rattle.std.proofs.lemmas.Simd.{bitmask_splat, length-chunk}
use mir.Syntax.{w8}
use lib.Lanes.{chunk}
use Rattle.moka_list.specs.declared.constants.TheConstants.{FAR}
use Rattle.moka_list.specs.HashIndex.{slots_at, slots_of, slots_with}
use Rattle.moka_list.proofs.group.Group.slots_of.Goals as goal

both : (tags tags' distances distances' : ℕ) → tags ≡ tags' → distances ≡ distances'
    → bit_and (tags % 1024) (distances / 2 ^ 6) ≡ bit_and (tags' % 1024) (distances' / 2 ^ 6)
both tags tags' distances distances' tag distance =
    ap (λ n. bit_and (n % 1024) (distances / 2 ^ 6)) tag ∙ ap (λ n. bit_and (tags' % 1024) (n / 2 ^ 6)) distance

pub returns-clause-slots : goal.returns-clause-slots
unfolding slots_of slots_with slots_at
returns-clause-slots c =
    let marks = c.args.self.now.marks in
    let whole : length marks ≡ 20 = search rules in
    let first : length (take 16 marks) ≡ 16 = search rules in
    let half : length (chunk 4 16 marks) ≡ 16 = length-chunk 4 16 marks (omega arith) in
    let last : length (chunk 0 16 (chunk 4 16 marks)) ≡ 16 = length-chunk 0 16 (chunk 4 16 marks) (omega arith) in
    let distance : c.min-distance.result ≡ min c.args.distance FAR = search rules in
    both _ _ _ _ (bitmask_splat w8 nat_eq (take 16 marks) 16 c.args.tag first (omega arith))
    (bitmask_splat w8 nat_eq (chunk 0 16 (chunk 4 16 marks)) 16 c.min-distance.result last (omega arith))
    ∙ ap (λ d. bit_and (slots_with c.args.self.now c.args.tag) (slots_at c.args.self.now d)) distance
