-- What a step replies.
use Rattle.std.specs.Prelude.{List, Option, None, Some}
use Rattle.moka_sync_model.specs.declared.event.Reply.{Reply as AnyReply}

-- the pairs of a copy are a list
abbrev pub Reply : Type 0 → Type 0 → Type 0
Reply K V = AnyReply V (List (K × V))

-- what a caller is handed of a value that a step has found: nothing where it has found none
abbrev pub IsHanded : {V T : Type 0} → (V → T → Type 0) → Option V → Option T → Type 0
IsHanded is_taken None None = Unit {0}
IsHanded is_taken (Some value) (Some taken) = is_taken value taken
IsHanded is_taken found handed = ⊥
