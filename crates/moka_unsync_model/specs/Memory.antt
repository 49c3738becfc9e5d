-- What a cache whose window adapts remembers of the entries that left it, and how large a window that asks for.
use Rattle.std.specs.Prelude.{ℕ, ◌+◌, ◌-◌, ◌*◌, ◌/◌, ◌%◌, ◌^◌, ◌==◌, Bool, true, false, List, length, max, Option, Some, None}
use Rattle.std.specs.Prelude.{if◌then◌else◌, replicate, slice_index, slice_set}
use Rattle.moka_common.specs.Sketch.{Table}
use Rattle.moka_unsync_model.specs.declared.constants.TheConstants.{DEMAND_SLACK, LEAST_TAGS, MOST_WINDOW_SHARE, WORDS_A_TAG}
use Rattle.moka_unsync_model.specs.declared.shares.Shares.{Shares}
use Rattle.moka_unsync_model.specs.Shares.{hundredths}

-- ---- tables of tags

-- tags of the entries that left last, each in its hash's slot, 0 in a slot without one; and the slot that is cleared next
pub record Tags : Type 0 where
  pub slots : List ℕ
  pub hand : ℕ

-- a table of so many empty slots
abbrev pub new_tags : ℕ → Tags
new_tags count = record { slots = replicate count 0; hand = 0 }

-- the tag of a hash: its highest fifteen bits, and never 0
abbrev pub tag_of : ℕ → ℕ
tag_of hash = hash / 2 ^ 49 * 2 + 1

-- the slot of a hash
abbrev pub slot_of : Tags → ℕ → ℕ
slot_of tags hash = hash / 2 ^ 20 % length tags.slots

-- whether a hash is noted
abbrev pub is_noted : Tags → ℕ → Bool
is_noted tags hash = slice_index tags.slots (slot_of tags hash) == tag_of hash

-- the tags once a hash is noted: the next slot is cleared first, so that no tag stays for more notes than there are slots
abbrev pub after_note : Tags → ℕ → Tags
after_note tags hash =
    if length tags.slots == 0 then tags
    else record {
      slots = slice_set (slice_set tags.slots tags.hand 0) (slot_of tags hash) (tag_of hash);
      hand = (tags.hand + 1) % length tags.slots;
    }

-- the tags once a hash is noted no more
abbrev pub after_taking : Tags → ℕ → Tags
after_taking tags hash = if is_noted tags hash then record tags { slots = slice_set tags.slots (slot_of tags hash) 0 } else tags

-- ---- what a cache remembers

-- the candidates that were rejected, the entries that main gave up for others, and how much weight the window asks for, in halves
pub record Memory : Type 0 where
  pub rejected : Tags
  pub displaced : Tags
  pub demand : ℕ

-- the memory of a new cache, if it adapts: its tables have no slots until the sketch has its table
abbrev pub new_memory : Shares → Option Memory
new_memory shares = if shares.adapts then Some (record { rejected = new_tags 0; displaced = new_tags 0; demand = 0 }) else None

-- how many slots each table has beside a sketch of so many words
abbrev pub tags_for : ℕ → ℕ
tags_for words = max (words / WORDS_A_TAG) LEAST_TAGS

-- the memory once tables were asked for beside a sketch of so many words, which memory refuses or not
abbrev pub made_tables : Bool → ℕ → Memory → Memory
made_tables true words memory = memory
made_tables false words memory = record memory { rejected = new_tags (tags_for words); displaced = new_tags (tags_for words) }

-- the memory once the cache asked whether to turn its sketch on: its tables are made with the sketch's, unless memory refuses them, and then never
abbrev pub after_remembering : Bool → Option Table → Option Table → Option Memory → Option Memory
after_remembering refused old new None = None
after_remembering refused (Some before) new (Some memory) = Some memory
after_remembering refused None None (Some memory) = Some memory
after_remembering refused None (Some table) (Some memory) = Some (made_tables refused table.places memory)

-- ---- how much the window asks for

-- a number, but no more than this
abbrev pub at_most : ℕ → ℕ → ℕ
at_most most number = number - (number - most)

-- the most weight that the window may have beyond its share
abbrev pub most_extra : Shares → ℕ → ℕ
most_extra shares limit = hundredths MOST_WINDOW_SHARE limit - hundredths shares.window limit

-- a demand that is ignored
abbrev pub slack_of : ℕ → ℕ
slack_of limit = limit / DEMAND_SLACK

-- what the window gets beyond its share at a demand, which counts halves
abbrev pub extra_at : Shares → ℕ → ℕ → ℕ
extra_at shares limit demand = at_most (most_extra shares limit) (demand / 2 - slack_of limit)

-- the demand once a new entry of this hash and weight came: two halves of its weight more if it was recently rejected, since a larger window would have
-- kept it; three less if main recently gave it up, since a larger main would have; and else the same
abbrev pub demand_after : Shares → ℕ → Memory → ℕ → ℕ → ℕ
demand_after shares limit memory hash weight =
    if is_noted memory.rejected hash then at_most (2 * (most_extra shares limit + slack_of limit)) (memory.demand + 2 * weight)
    else if is_noted memory.displaced hash then memory.demand - 3 * weight
    else memory.demand

-- the shares at a demand
abbrev pub shares_at : Shares → ℕ → ℕ → Shares
shares_at shares limit demand = record shares { extra = extra_at shares limit demand }

-- the memory once a new entry came: its own tags are taken out
abbrev pub after_coming : ℕ → Memory → Memory
after_coming hash memory =
    record memory { rejected = after_taking memory.rejected hash; displaced = after_taking memory.displaced hash }
