use Rattle.std.proofs.Common.{[], ◌∷◌, ◌++◌, sym, subst, ◌∙◌}
use Rattle.std.proofs.lemmas.List.{append_assoc}
use Rattle.moka_deque.proofs.EndLemmas.{ring_after}
use Rattle.lru.specs.Linked.{HasNext}
use Rattle.moka_deque.specs.RawNodes.{ring}
use Rattle.moka_deque.proofs.deque.nodes.Ends.after.Goals as goal

pub next-after-requires : goal.next-after-requires
next-after-requires g c =
    let l = c.args.self.now.list in let has = c.requires in
    (has.2.at, subst (λ p. HasNext (ring l.head l.nodes l.tail) p has.2.at) has.5 (ring_after l.head l.tail l.nodes has.0 has.1 has.2 has.3 has.4))

pub entry-requires : goal.entry-requires
entry-requires g c =
    let l = c.args.self.now.list in let has = c.requires in (
      has.0 ++ has.1 ∷ [],
      has.2,
      has.3,
      has.4 ∙ sym (append_assoc has.0 (has.1 ∷ []) (has.2 ∷ has.3)),
      sym (c.next-after.ensures has.2.at (subst (λ p. HasNext (ring l.head l.nodes l.tail) p has.2.at) has.5
          (ring_after l.head l.tail l.nodes has.0 has.1 has.2 has.3 has.4))),
    )

pub returns : goal.returns
returns g c = λ xs n m ys cut at.
    let l = c.args.self.now.list in
    (c.entry.ensures (xs ++ n ∷ []) m ys (cut ∙ sym (append_assoc xs (n ∷ []) (m ∷ ys)))
    (sym (c.next-after.ensures m.at (subst (λ p. HasNext (ring l.head l.nodes l.tail) p m.at) at (ring_after l.head l.tail l.nodes xs n m ys cut))))).0
