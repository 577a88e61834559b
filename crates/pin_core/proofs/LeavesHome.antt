-- A page that ends is in no job, and its blocks are free.
use Rattle.std.proofs.Common.{◌≡◌, ◌≢◌, ℕ, ◌+◌, ◌*◌, ◌≤◌, true, Option, Some, None, refl, ap, sym, ◌∙◌, subst, arith, one-mul, zero-mul}
use Rattle.std.proofs.lemmas.Bool.{false≢true}
use Rattle.block_arena.specs.Memory.{Buffer, Supply, IsBufferOf}
use Rattle.page_table.specs.declared.entry.Place.{Place as Spot}
use Rattle.page_table.specs.declared.entry.Place.TheVariants as spot
use Rattle.page_table.specs.declared.entry.Mem.{Mem}
use Rattle.page_table.specs.declared.entry.Mem.TheVariants as mem
use Rattle.pool_model.specs.State.{pins_of, Flying, Loading}
use Rattle.pool_model.specs.Sums.{times_charged, is_in_memory, once}
use Rattle.pin_core.specs.StateOf.{place_in}
use Rattle.pin_core.specs.Invariant.{IsMem, is_home}
use Rattle.pin_core.specs.parts.Leavings.{IsGiven, IfHeld, TakesBack, held_in, blocks_in}

pub given_home : (len blocks : ℕ) (at : Spot) (buf : Option Buffer) → IsGiven len blocks at buf → is_home at ≡ true
given_home len blocks (spot.Pinned count) buf is = refl
given_home len blocks spot.Dirty buf is = refl
given_home len blocks (spot.Flying writer) buf is = absurd is
given_home len blocks spot.Loading buf is = absurd is
given_home len blocks spot.Clean buf is = refl
given_home len blocks spot.Evicted buf is = refl

-- it is charged for its pins alone
pub home_charged : (at : Spot) → is_home at ≡ true → times_charged (place_in at) ≡ pins_of (place_in at)
home_charged (spot.Pinned count) home = refl
home_charged spot.Dirty home = refl
home_charged (spot.Flying writer) home = absurd (false≢true home)
home_charged spot.Loading home = absurd (false≢true home)
home_charged spot.Clean home = refl
home_charged spot.Evicted home = refl

-- its buffer has its blocks, where it has any in memory
pub blocks_held : (len blocks : ℕ) (at : Spot) (m : Mem) (buf : Option Buffer) → IsMem len blocks at m → IsGiven len blocks at buf
    → blocks_in (held_in m buf) ≡ once is_in_memory (place_in at) * blocks
blocks_held len blocks (spot.Pinned count) m (Some buf) is given = ap (λ (z : Mem). blocks_in (held_in z (Some buf))) is ∙ given.blocks ∙ sym (one-mul blocks)
blocks_held len blocks spot.Dirty (mem.Held own) None is given = is.blocks ∙ sym (one-mul blocks)
blocks_held len blocks spot.Clean (mem.Held own) None is given = is.blocks ∙ sym (one-mul blocks)
blocks_held len blocks spot.Evicted m None is given = ap (λ (z : Mem). blocks_in (held_in z None)) is ∙ sym (zero-mul blocks)
blocks_held len blocks (spot.Pinned count) m None is given = absurd given
blocks_held len blocks spot.Dirty (mem.Empty shell) None is given = absurd is
blocks_held len blocks spot.Dirty mem.Out None is given = absurd is
blocks_held len blocks spot.Clean (mem.Empty shell) None is given = absurd is
blocks_held len blocks spot.Clean mem.Out None is given = absurd is
blocks_held len blocks spot.Dirty m (Some buf) is given = absurd given
blocks_held len blocks spot.Clean m (Some buf) is given = absurd given
blocks_held len blocks spot.Evicted m (Some buf) is given = absurd given
blocks_held len blocks (spot.Flying writer) m buf is given = absurd given
blocks_held len blocks spot.Loading m buf is given = absurd given

taken_back : (arena : Supply) (blocks : ℕ) (buf : Buffer) → IsBufferOf blocks arena.block_len buf → arena.free + blocks ≤ arena.blocks → TakesBack arena buf
taken_back arena blocks buf is room = let same = is.blocks in record { len = is.block_len; room = omega (arith, same, room) }

-- it can be taken back where there is room for its blocks
pub held_back : (arena : Supply) (blocks : ℕ) (at : Spot) (m : Mem) (buf : Option Buffer) → IsMem arena.block_len blocks at m → IsGiven arena.block_len blocks at buf
    → arena.free + once is_in_memory (place_in at) * blocks ≤ arena.blocks → IfHeld (TakesBack arena) (held_in m buf)
held_back arena blocks (spot.Pinned count) m (Some buf) is given room =
    let one = one-mul blocks in
    subst (λ (z : Mem). IfHeld (TakesBack arena) (held_in z (Some buf))) (sym is) (taken_back arena blocks buf given (omega (arith, room, one)))
held_back arena blocks spot.Dirty (mem.Held own) None is given room = let one = one-mul blocks in taken_back arena blocks own is (omega (arith, room, one))
held_back arena blocks spot.Clean (mem.Held own) None is given room = let one = one-mul blocks in taken_back arena blocks own is (omega (arith, room, one))
held_back arena blocks spot.Evicted m None is given room = subst (λ (z : Mem). IfHeld (TakesBack arena) (held_in z None)) (sym is) tt
held_back arena blocks (spot.Pinned count) m None is given room = absurd given
held_back arena blocks spot.Dirty (mem.Empty shell) None is given room = absurd is
held_back arena blocks spot.Dirty mem.Out None is given room = absurd is
held_back arena blocks spot.Clean (mem.Empty shell) None is given room = absurd is
held_back arena blocks spot.Clean mem.Out None is given room = absurd is
held_back arena blocks spot.Dirty m (Some buf) is given room = absurd given
held_back arena blocks spot.Clean m (Some buf) is given room = absurd given
held_back arena blocks spot.Evicted m (Some buf) is given room = absurd given
held_back arena blocks (spot.Flying writer) m buf is given room = absurd given
held_back arena blocks spot.Loading m buf is given room = absurd given

-- a page of a job is none that ends
pub not_flown : (at : Spot) → is_home at ≡ true → (writer : ℕ) → place_in at ≢ Flying writer
not_flown (spot.Pinned count) home writer is = cc
not_flown spot.Dirty home writer is = cc
not_flown (spot.Flying other) home writer is = false≢true home
not_flown spot.Loading home writer is = cc
not_flown spot.Clean home writer is = cc
not_flown spot.Evicted home writer is = cc

pub not_loaded : (at : Spot) → is_home at ≡ true → place_in at ≢ Loading
not_loaded (spot.Pinned count) home is = cc
not_loaded spot.Dirty home is = cc
not_loaded (spot.Flying other) home is = cc
not_loaded spot.Loading home is = false≢true home
not_loaded spot.Clean home is = cc
not_loaded spot.Evicted home is = cc
