use Rattle.std.proofs.Common.{◌≡◌, ◌∙◌, ◌-◌, ◌^◌, ◌<◌, ◌≤◌, arith, length, ap, inr, rules, subst, sym}
use Rattle.moka_list.specs.HashIndex.{candidates, group_at, home_group, slots_of, rest_of, tag_of, tagged}
use Rattle.moka_list.proofs.RestLemmas.{none_of, rest_whole, none_left, tagged_nowhere}
use Rattle.moka_list.proofs.hash_index.HashIndex.candidates.Goals as goal
use Rattle.moka_list.proofs.hash_index.HashIndex.candidates.Goals.{in-Some, in-None}

pub returns : goal.returns
returns g c =
    let groups = c.self.inside.groups.items in
    let n = length groups in
    let len : c.len-len.result ≡ n = search rules in
    let home : c.probe_of-at.result.0 ≡ home_group n c.args.hash = c.probe_of-at.ensures.home ∙ ap (λ m. home_group m c.args.hash) len in
    let tag : c.probe_of-at.result.1 ≡ tag_of n c.args.hash = c.probe_of-at.ensures.tag ∙ ap (λ m. tag_of m c.args.hash) len in
    let same : c.deref.result.now ≡ groups = c.deref.ensures.value in
    let same2 : c.deref-2.result.now ≡ groups = c.deref-2.ensures.value in
    let left : c.saturating_sub.result ≡ n - 1 = c.saturating_sub.ensures ∙ ap (λ m. m - 1) len in
    let far = c.self.inside.far in let t = tag_of n c.args.hash in
    ap (λ xs. rest_of xs c.probe_of-at.result.1 far c.saturating_sub.result 0 c.probe_of-at.result.0 c.match-get.found) same2
    ∙ ap (λ t'. rest_of groups t' far c.saturating_sub.result 0 c.probe_of-at.result.0 c.match-get.found) tag
    ∙ ap (λ l. rest_of groups t far l 0 c.probe_of-at.result.0 c.match-get.found) left
    ∙ elim c.match-get.branch [
      | in-Some w ↦
          let at = c.probe_of-at.result.0 in
          let inside : at < n = subst (λ xs. at < length xs) same w.in-Some.ensures.lookup.3.0 in
          let is : w.in-Some.group.now ≡ group_at groups at = w.in-Some.ensures.lookup.3.1 _ ∙ ap (λ xs. group_at xs at) same in
          let found : c.match-get.found ≡ slots_of w.in-Some.group.now c.probe_of-at.result.1 0 =
          w.found-is ∙ w.slots_of-found.ensures.slots in
          ap (rest_of groups t far (n - 1) 0 at)
          (found ∙ ap (λ g. slots_of g c.probe_of-at.result.1 0) is ∙ ap (λ t'. slots_of (group_at groups at) t' 0) tag)
          ∙ rest_whole groups t far at (λ none. absurd (omega arith))
          ∙ ap (tagged groups t far n 0) home ∙ ap (λ v. candidates v c.args.hash) c.self.view_is
      | in-None w ↦
          let at = c.probe_of-at.result.0 in
          let past : n ≤ at = subst (λ xs. length xs ≤ at) same w.in-None.ensures.lookup.3 in
          let past' : n ≤ home_group n c.args.hash = subst (λ a. n ≤ a) home past in
          ap (rest_of groups t far (n - 1) 0 at) w.found-is
          ∙ none_of groups t far (n - 1) 0 at (inr (none_left n c.args.hash past'))
          ∙ sym (tagged_nowhere groups t far (home_group n c.args.hash) c.args.hash past')
          ∙ ap (λ v. candidates v c.args.hash) c.self.view_is
    ]

pub invariant_of-result : goal.invariant_of-result
invariant_of-result g c =
    let groups = c.self.inside.groups.items in let n = length groups in
    let len : c.len-len.result ≡ n = search rules in
    let home : c.probe_of-at.result.0 ≡ home_group n c.args.hash = c.probe_of-at.ensures.home ∙ ap (λ m. home_group m c.args.hash) len in
    let same : c.deref.result.now ≡ groups = c.deref.ensures.value in
    let same2 : c.deref-2.result.now ≡ groups = c.deref-2.ensures.value in
    let left : c.saturating_sub.result ≡ n - 1 = c.saturating_sub.ensures ∙ ap (λ m. m - 1) len in
    let fits : n < 2 ^ 32 = omega (arith, c.self.invariant.most) in (
      elim c.match-get.branch [
        | in-Some w ↦ subst (λ f. f < 1024) (sym w.found-is) w.slots_of-found.ensures.bound
        | in-None w ↦ subst (λ f. f < 1024) (sym w.found-is) (omega arith)
      ],
      λ past. (
        elim c.match-get.branch [
          | in-Some w ↦
              let inside : c.probe_of-at.result.0 < n = subst (λ xs. c.probe_of-at.result.0 < length xs) same w.in-Some.ensures.lookup.3.0 in
              let past' : n ≤ c.probe_of-at.result.0 = subst (λ xs. length xs ≤ c.probe_of-at.result.0) same2 past in absurd (omega arith)
          | in-None w ↦ w.found-is
        ],
        left ∙ none_left n c.args.hash (subst (λ a. n ≤ a) home (subst (λ xs. length xs ≤ c.probe_of-at.result.0) same2 past)),
      ),
      omega arith,
    )
