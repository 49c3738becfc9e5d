-- What the replies to a sketch script are.
use Rattle.std.specs.Prelude.{◌≡◌, ℕ, ◌&&◌, Bool, nat_lt, List, [], ◌∷◌, ◌++◌, Option, None, if◌then◌else◌}
use Rattle.std.specs.Fn.{iterate}
use Rattle.moka_common.specs.Sketch.{Table, after_increment, estimate, index_of}
use Rattle.moka_common.specs.SketchCapacity.{after_ensure_capacity, table_len, table_len_for}
use Rattle.moka_script.specs.Reply.{Reply, Ready, Done, Number, OutOfMemory, reply_line}
use Rattle.moka_grammar.specs.declared.line.SketchLine.{SketchLine}
use Rattle.moka_grammar.specs.declared.line.SketchLine.TheVariants.{Inc, Freq, Index, Len, Ensure}

-- whether a longer table is asked of memory, and memory refuses
abbrev pub is_table_refused : Option Table → ℕ → Bool → Bool
is_table_refused sketch cap refused = nat_lt (table_len sketch) (table_len_for cap) && refused

-- the reply to a line; the last argument says whether memory refuses
abbrev pub sketch_reply : Option Table → SketchLine → Bool → Reply
sketch_reply sketch (Inc hash times) refused = Done
sketch_reply sketch (Freq hash) refused = Number (estimate sketch hash)
sketch_reply sketch (Index hash depth) refused = Number (index_of (table_len sketch) hash depth)
sketch_reply sketch Len refused = Number (table_len sketch)
sketch_reply sketch (Ensure cap) refused = if is_table_refused sketch cap refused then OutOfMemory else Done

-- the sketch once a line is answered: after as many counts, or with the table that was asked for
abbrev pub after_sketch_line : Option Table → SketchLine → Bool → Option Table
after_sketch_line sketch (Inc hash times) refused = iterate (λ s. after_increment s hash) times sketch
after_sketch_line sketch (Freq hash) refused = sketch
after_sketch_line sketch (Index hash depth) refused = sketch
after_sketch_line sketch Len refused = sketch
after_sketch_line sketch (Ensure cap) refused = if is_table_refused sketch cap refused then sketch else after_ensure_capacity sketch cap

-- a line for each call, with the sketch's reply, whatever memory refuses
abbrev pub AreSketchReplies : Option Table → List SketchLine → List ℕ → Type 0
AreSketchReplies sketch [] text = text ≡ []
AreSketchReplies sketch (line ∷ lines) text =
    (refused : Bool) × (rest : List ℕ)
    × (text ≡ reply_line (sketch_reply sketch line refused) ++ rest)
    × AreSketchReplies (after_sketch_line sketch line refused) lines rest

-- the reply lines of a sketch script: its sketch begins with a table for so many entries
abbrev pub AreSketchReplyLines : ℕ → List SketchLine → List ℕ → Type 0
AreSketchReplyLines cap lines text =
    (replies : List ℕ) × AreSketchReplies (after_ensure_capacity None cap) lines replies × (text ≡ reply_line Ready ++ replies)
