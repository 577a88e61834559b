-- How entries are told apart as plain data. No clause cites this module.
use Rattle.std.specs.Prelude.{◌≡◌, ◌⊎◌, ℕ, zero, suc, List, Option, Some, None, refl}
use Rattle.std.proofs.Common.{inl, inr}
use Rattle.std.specs.Coded.{Coded, code_by, coded×, coded⊎, coded_ℕ, coded_list, coded_option}
use Rattle.block_arena.specs.Memory.{Buffer}
use Rattle.page_table.specs.declared.entry.Place.{Place}
use Rattle.page_table.specs.declared.entry.Place.TheVariants.{Pinned, Dirty, Flying, Loading, Clean, Evicted}
use Rattle.page_table.specs.declared.entry.Mem.{Mem}
use Rattle.page_table.specs.declared.entry.Mem.TheVariants.{Held, Empty, Out}
use Rattle.page_table.specs.declared.entry.Entry.{Entry}

-- which place it is, and its count or writer
abbrev pub parts_of : Place → ℕ × ℕ
parts_of (Pinned count) = (0, count)
parts_of Dirty = (1, 0)
parts_of (Flying writer) = (2, writer)
parts_of Loading = (3, 0)
parts_of Clean = (4, 0)
parts_of Evicted = (5, 0)

abbrev pub place_from : ℕ → ℕ → Place
place_from zero n = Pinned n
place_from (suc zero) n = Dirty
place_from (suc (suc zero)) n = Flying n
place_from (suc (suc (suc zero))) n = Loading
place_from (suc (suc (suc (suc zero)))) n = Clean
place_from (suc (suc (suc (suc (suc more))))) n = Evicted

abbrev pub place_back : (place : Place) → place_from (parts_of place).0 (parts_of place).1 ≡ place
place_back (Pinned count) = refl
place_back Dirty = refl
place_back (Flying writer) = refl
place_back Loading = refl
place_back Clean = refl
place_back Evicted = refl

abbrev pub place_code : Coded Place
place_code = code_by (ℕ × ℕ) (coded× coded_ℕ coded_ℕ) parts_of (λ p. place_from p.0 p.1) place_back

-- a buffer is stored as the tuple of its fields
abbrev pub buffer_code : Coded Buffer
buffer_code =
    code_by (ℕ × (ℕ × List ℕ)) (coded× coded_ℕ (coded× coded_ℕ (coded_list coded_ℕ)))
    (λ b. (b.block_len, (b.blocks, b.bytes)))
    (λ p. record { block_len = p.0; blocks = p.1.0; bytes = p.1.1 })
    (λ _. refl)

-- what is held, if anything
abbrev pub kept_in : Mem → Option (Buffer ⊎ ℕ)
kept_in (Held buf) = Some (inl buf)
kept_in (Empty shell) = Some (inr shell)
kept_in Out = None

abbrev pub mem_of : Option (Buffer ⊎ ℕ) → Mem
mem_of (Some (inl buf)) = Held buf
mem_of (Some (inr shell)) = Empty shell
mem_of None = Out

abbrev pub mem_back : (mem : Mem) → mem_of (kept_in mem) ≡ mem
mem_back (Held buf) = refl
mem_back (Empty shell) = refl
mem_back Out = refl

abbrev pub mem_code : Coded Mem
mem_code = code_by (Option (Buffer ⊎ ℕ)) (coded_option (coded⊎ buffer_code coded_ℕ)) kept_in mem_of mem_back

-- an entry is stored as the tuple of its fields
abbrev pub entry_code : {S : Type 0} → Coded S → Coded (Entry S)
entry_code {S} scratch_code =
    code_by
    (ℕ × (ℕ × (ℕ × (ℕ × (ℕ × (Place × (Mem × S)))))))
    (coded× coded_ℕ (coded× coded_ℕ (coded× coded_ℕ (coded× coded_ℕ (coded× coded_ℕ (coded× place_code (coded× mem_code scratch_code)))))))
    (λ e. (e.name, (e.session, (e.client, (e.blocks, (e.version, (e.place, (e.mem, e.scratch))))))))
    (λ p. record { name = p.0; session = p.1.0; client = p.1.1.0; blocks = p.1.1.1.0; version = p.1.1.1.1.0; place = p.1.1.1.1.1.0; mem = p.1.1.1.1.1.1.0; scratch = p.1.1.1.1.1.1.1 })
    (λ _. refl)
