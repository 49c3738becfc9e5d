-- A map as it was built, shard by shard.
use Rattle.std.proofs.Common.{◌≡◌, ℕ, suc, ◌<◌, List, [], ◌∷◌, ◌++◌, length, map, replicate, All, refl, sym, ◌∙◌, ap, subst}
use Rattle.std.specs.List.{AllByRecursion}
use Rattle.std.proofs.lemmas.List.{length-map}
use Rattle.std.proofs.lemmas.List.Elements.{All-from_recursion, recursion_from_All}
use Rattle.moka_sync_model.specs.declared.constants.TheConstants.{SHARDS}
use Rattle.moka_sync_model.specs.Parts.{entries_of}
use Rattle.moka_common.specs.Keys.{Keys}
use Rattle.moka_common.specs.Settings.{Settings}
use Rattle.moka_shard.specs.Shard.{Shard, entries_in, state_of}
use Rattle.moka_core.specs.Shards.{AreOwn, AreOwnFrom, IsAsBuilt, map_in, started, states_of}

-- a list that is empty with another is empty
front-none : {X : Type 0} (xs ys : List X) → xs ++ ys ≡ [] → xs ≡ []
front-none [] ys none = refl
front-none (x ∷ xs) ys none = absurd (cc)

module _ {K V S : Type 0} where
  -- the shard is as built
  abbrev Built : ℕ → Shard K V S → Type 0
  Built number shard = IsAsBuilt number (state_of shard)

  entries-none : (number : ℕ) (shards : List (Shard K V S)) → AllByRecursion (Built number) shards → entries_of (states_of shards) ≡ []
  entries-none number [] built = refl
  entries-none number (shard ∷ shards) (is, built) = rw is.empty (entries-none number shards built)

  numbers-replicate : (number : ℕ) (shards : List (Shard K V S)) → AllByRecursion (Built number) shards
      → map (λ s. s.next_number) (states_of shards) ≡ replicate (length shards) number
  numbers-replicate number [] built = refl
  numbers-replicate number (shard ∷ shards) (is, built) = rw (is.next, numbers-replicate number shards built) refl

  -- shards as they are built have no entry, and give out this number
  pub map-built : (shards : List (Shard K V S)) (number : ℕ) → length shards ≡ SHARDS → All (Built number) shards
      → (entries_of (states_of shards) ≡ []) × (map (λ s. s.next_number) (states_of shards) ≡ replicate SHARDS number)
  map-built shards number count all =
      let built = recursion_from_All (Built number) shards all in
      (entries-none number shards built, numbers-replicate number shards built ∙ ap (λ n. replicate n number) count)

  shards-built : (number : ℕ) (shards : List (Shard K V S)) → entries_of (states_of shards) ≡ []
      → map (λ s. s.next_number) (states_of shards) ≡ replicate (length shards) number → AllByRecursion (Built number) shards
  shards-built number [] none numbers = tt
  shards-built number (shard ∷ shards) none numbers =
      let front = front-none (state_of shard).entries (entries_of (states_of shards)) none in
      (record { empty = front; next = cc }, shards-built number shards (rw front at none) cc)

  -- and only they do
  pub built-map : (shards : List (Shard K V S)) (number : ℕ) → length shards ≡ SHARDS → entries_of (states_of shards) ≡ []
      → map (λ s. s.next_number) (states_of shards) ≡ replicate SHARDS number → All (Built number) shards
  built-map shards number count none numbers =
      All-from_recursion (Built number) shards (shards-built number shards none (numbers ∙ ap (λ n. replicate n number) (sym count)))

  -- ---- shards that begin with another number

  -- no shard has an entry
  pub none-each : (shards : List (Shard K V S)) → entries_of (states_of shards) ≡ [] → All (λ shard. entries_in shard.slots ≡ []) shards
  none-each shards none = All-from_recursion _ shards (each shards none)
    where
      each : (shards : List (Shard K V S)) → entries_of (states_of shards) ≡ []
          → AllByRecursion (λ shard. entries_in shard.slots ≡ []) shards
      each [] none = tt
      each (shard ∷ shards) none =
          let front = front-none (state_of shard).entries (entries_of (states_of shards)) none in
          (front, each shards (rw front at none))

  pub started-entries : (first : ℕ) (shards : List (Shard K V S))
      → entries_of (states_of (map (started first) shards)) ≡ entries_of (states_of shards)
  started-entries first [] = refl
  started-entries first (shard ∷ shards) = ap (λ es. (state_of shard).entries ++ es) (started-entries first shards)

  pub started-numbers : (first : ℕ) (shards : List (Shard K V S))
      → map (λ s. s.next_number) (states_of (map (started first) shards)) ≡ replicate (length shards) first
  started-numbers first [] = refl
  started-numbers first (shard ∷ shards) = ap (λ ns. first ∷ ns) (started-numbers first shards)

  pub started-length : (first : ℕ) (shards : List (Shard K V S))
      → length (states_of (map (started first) shards)) ≡ length (states_of shards)
  started-length first [] = refl
  started-length first (shard ∷ shards) = ap suc (started-length first shards)

  -- they stay the map's own
  pub started-own : (keys : Keys K S) (state : S) (first number : ℕ) (shards : List (Shard K V S)) → entries_of (states_of shards) ≡ []
      → AreOwnFrom keys state number (states_of shards) → AreOwnFrom keys state number (states_of (map (started first) shards))
  started-own keys state first number [] none own = tt
  started-own keys state first number (shard ∷ shards) none (own, owns) =
      let front = front-none (state_of shard).entries (entries_of (states_of shards)) none in (
        record {
          numbered = own.numbered;
          shared = own.shared;
          valid = record {
            keys_apart = own.valid.keys_apart;
            tickets_apart = own.valid.tickets_apart;
            belong = own.valid.belong;
            hashed = own.valid.hashed;
            given_out = subst (All (λ e. e.ticket.number < first)) (sym front) (All-from_recursion _ [] tt);
          };
        },
        started-own keys state first (suc number) shards (rw front at none) owns,
      )

  -- all of them
  pub started-all_own : (keys : Keys K S) (state : S) (first : ℕ) (shards : List (Shard K V S)) → entries_of (states_of shards) ≡ []
      → AreOwn keys state (states_of shards) → AreOwn keys state (states_of (map (started first) shards))
  started-all_own keys state first shards none own = record {
    count = started-length first shards ∙ own.count;
    each = started-own keys state first 0 shards none own.each;
  }

  -- the map that they make up
  pub map-started : (settings : Settings S) (first : ℕ) (shards : List (Shard K V S)) → length (states_of shards) ≡ SHARDS
      → entries_of (states_of shards) ≡ []
      → map_in settings (states_of (map (started first) shards))
      ≡ record { settings = settings; entries = entries_of (states_of shards); next_numbers = replicate SHARDS first }
  map-started settings first shards count none =
      ap (λ es. record {
        settings = settings;
        entries = es;
        next_numbers = map (λ s. s.next_number)
            (states_of (map (started first) shards));
      })
      (started-entries first shards)
      ∙ ap (λ ns. record { settings = settings; entries = entries_of (states_of shards); next_numbers = ns })
      (started-numbers first shards ∙ ap (λ n. replicate n first) (sym (length-map shards state_of) ∙ count))
