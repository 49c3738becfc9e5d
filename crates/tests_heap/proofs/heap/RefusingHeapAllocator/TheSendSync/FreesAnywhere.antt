-- Where any thread may give a block back to the inner heap, any thread may give one back here.
use mir.Syntax.{Dict}
use denote.Param.Send.{Frees}
use denote.RattleType.{RattleType}
use Rattle.std.specs.declared.alloc.Allocator.{Ghosts}
use Rattle.tests_heap.specs.contracts.heap.RefusingHeapAllocator.TheImpl.{ghosts}

module _ (B : RattleType) (g : Ghosts B.Denot) where
  pub frees : (d drops : Dict) → Frees g g.dealloc_token → Frees (ghosts B g d drops) (ghosts B g d drops).dealloc_token
  frees d drops inner = record { frees = λ heap τ p. inner.frees heap.inner τ p }
