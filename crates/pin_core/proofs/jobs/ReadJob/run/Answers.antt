use Rattle.std.proofs.Common.{◌*◌, ◌+◌, ℕ, Bool, Option, ap, sym, ◌∙◌, subst}
use Rattle.std.specs.List.{slice_range}
use Rattle.block_arena.specs.Memory.{Buffer, block_of}
use Rattle.scratch_dev.specs.Rows.{Walked}
use Rattle.pin_core.specs.declared.jobs.Stale.{Stale}
use Rattle.pin_core.specs.calls.Returning.{stale_loads}
use Rattle.pin_core.specs.calls.Runs.{CountsStrays, IsLoadedAs}
use Rattle.pin_core.proofs.Counting.{loads_failed}
use Rattle.pin_core.proofs.Gathered.{well_is, fault_is, found_is, fresh_is}
use Rattle.pin_core.proofs.Rowed.{all_gave, stays, loaded_stores, loaded_tells, still_held, load_shows}
use Rattle.pin_core.proofs.Strayed.{loads_strayed}
use Rattle.pin_core.proofs.jobs.ReadJob.run.Goals as goal

pub returns-clause-gave : goal.returns-clause-gave
returns-clause-gave g c = λ unfailed none i d lt.
    all_gave g.D.Slot c.args.self.now.under c.args.self.now.id.name (λ i. block_of c.load_blocks-ended.new.buf i) c.load_blocks-ended.result c.args.self.now.row c.load_blocks-ended.new.row c.load_blocks-ended.ensures.slots
    (well_is c.load_blocks-ended.result c.end_of-failed.result.0 c.end_of-failed.result.1 (ap (λ (p : Bool × Option Stale). p.0) c.end_of-failed.ensures) (ap (λ (p : Bool × Option Stale). p.1) c.end_of-failed.ensures) unfailed none) i d lt

pub returns-clause-shows : goal.returns-clause-shows
returns-clause-shows g c = λ unfailed none tell gives bytes same held.
    load_shows g.D.Slot c.args.self.now.under c.args.self.now.id.name c.args.self.now.buf.block_len c.args.self.now.buf.blocks c.load_blocks-ended.result c.args.self.now.row c.load_blocks-ended.new.row c.load_blocks-ended.new.buf.bytes
    (subst (λ (len : ℕ). Walked (λ i. IsLoadedAs g.D.Slot c.args.self.now.under c.args.self.now.id.name i (slice_range c.load_blocks-ended.new.buf.bytes (i * len) (i * len + len))) c.load_blocks-ended.result c.args.self.now.row c.load_blocks-ended.new.row) (ap (λ (b : Buffer). b.block_len) c.load_blocks-ended.ensures.buffer) c.load_blocks-ended.ensures.slots)
    (well_is c.load_blocks-ended.result c.end_of-failed.result.0 c.end_of-failed.result.1 (ap (λ (p : Bool × Option Stale). p.0) c.end_of-failed.ensures) (ap (λ (p : Bool × Option Stale). p.1) c.end_of-failed.ensures) unfailed none)
    (sym c.requires.fit.slots) (c.load_blocks-ended.ensures.bytes ∙ c.requires.fit.whole.whole) bytes (same ∙ c.requires.fit.whole.whole) tell gives held

pub returns-clause-fresh : goal.returns-clause-fresh
returns-clause-fresh g c = λ tell gives bytes same held.
    fresh_is g.D.Slot c.args.self.now.under c.args.self.now.id.name c.args.self.now.buf.block_len c.args.self.now.buf.blocks c.load_blocks-ended.result c.end_of-failed.result.1 c.args.self.now.row c.load_blocks-ended.new.row c.load_blocks-ended.new.buf.bytes
    (ap (λ (p : Bool × Option Stale). p.1) c.end_of-failed.ensures)
    (subst (λ (len : ℕ). Walked (λ i. IsLoadedAs g.D.Slot c.args.self.now.under c.args.self.now.id.name i (slice_range c.load_blocks-ended.new.buf.bytes (i * len) (i * len + len))) c.load_blocks-ended.result c.args.self.now.row c.load_blocks-ended.new.row) (ap (λ (b : Buffer). b.block_len) c.load_blocks-ended.ensures.buffer) c.load_blocks-ended.ensures.slots)
    (sym c.requires.fit.slots) (c.load_blocks-ended.ensures.bytes ∙ c.requires.fit.whole.whole) tell gives bytes (same ∙ c.requires.fit.whole.whole) held

pub returns-clause-found : goal.returns-clause-found
returns-clause-found g c =
    found_is g.D.Slot c.args.self.now.under c.args.self.now.id.name c.args.self.now.row c.load_blocks-ended.new.row (λ i. block_of c.load_blocks-ended.new.buf i) c.load_blocks-ended.result c.end_of-failed.result.1 (ap (λ (p : Bool × Option Stale). p.1) c.end_of-failed.ensures) c.load_blocks-ended.ensures.slots

pub returns-clause-held : goal.returns-clause-held
returns-clause-held g c = still_held g.D.Slot c.args.self.now.under c.args.self.now.id.name (λ i. block_of c.load_blocks-ended.new.buf i) c.load_blocks-ended.result c.args.self.now.row c.load_blocks-ended.new.row c.load_blocks-ended.ensures.slots c.load_blocks-ended.ensures.len

pub returns-clause-tells : goal.returns-clause-tells
returns-clause-tells g c = loaded_tells g.D.Slot c.args.self.now.under c.args.self.now.id.name (λ i. block_of c.load_blocks-ended.new.buf i) c.load_blocks-ended.result c.args.self.now.row c.load_blocks-ended.new.row c.load_blocks-ended.ensures.slots c.load_blocks-ended.ensures.len

pub returns-clause-stores : goal.returns-clause-stores
returns-clause-stores g c = loaded_stores g.D.Slot c.args.self.now.under c.args.self.now.id.name (λ i. block_of c.load_blocks-ended.new.buf i) c.load_blocks-ended.result c.args.self.now.row c.load_blocks-ended.new.row c.load_blocks-ended.ensures.slots c.load_blocks-ended.ensures.len

pub returns-clause-faults : goal.returns-clause-faults
returns-clause-faults g c =
    rw (← (ap (λ (p : Bool × Option Stale). p.0) c.end_of-failed.ensures)) at (loads_failed g.D.Slot c.args.self.now.under c.args.self.now.id.name (λ i. block_of c.load_blocks-ended.new.buf i) c.args.self.now.row c.load_blocks-ended.new.row c.load_blocks-ended.ensures.len c.load_blocks-ended.result c.load_blocks-ended.ensures.slots)

pub returns-clause-failed : goal.returns-clause-failed
returns-clause-failed g c = λ did. fault_is c.load_blocks-ended.result c.end_of-failed.result.0 _ _ (ap (λ (p : Bool × Option Stale). p.0) c.end_of-failed.ensures) c.load_blocks-ended.ensures.never_falls c.load_blocks-ended.ensures.failed did

pub returns-clause-strays : goal.returns-clause-strays
returns-clause-strays g c = λ i d lt.
    (stays g.D.Slot c.args.self.now.under c.args.self.now.id.name (λ i. block_of c.load_blocks-ended.new.buf i) c.load_blocks-ended.result c.args.self.now.row c.load_blocks-ended.new.row c.load_blocks-ended.ensures.slots i d lt).strays

pub returns-clause-strayed : goal.returns-clause-strayed
returns-clause-strayed g c = λ bytes same held.
    subst (λ (p : Bool × Option Stale). CountsStrays g.D.Slot (stale_loads p.0 p.1) c.args.self.now.row c.load_blocks-ended.new.row) (sym c.end_of-failed.ensures)
    (loads_strayed g.D.Slot c.args.self.now.under c.args.self.now.id.name c.args.self.now.buf.block_len c.args.self.now.buf.blocks c.load_blocks-ended.result c.args.self.now.row c.load_blocks-ended.new.row c.load_blocks-ended.new.buf.bytes
    (subst (λ (len : ℕ). Walked (λ i. IsLoadedAs g.D.Slot c.args.self.now.under c.args.self.now.id.name i (slice_range c.load_blocks-ended.new.buf.bytes (i * len) (i * len + len))) c.load_blocks-ended.result c.args.self.now.row c.load_blocks-ended.new.row) (ap (λ (b : Buffer). b.block_len) c.load_blocks-ended.ensures.buffer) c.load_blocks-ended.ensures.slots)
    c.load_blocks-ended.ensures.len (sym c.requires.fit.slots) (c.load_blocks-ended.ensures.bytes ∙ c.requires.fit.whole.whole) bytes (same ∙ c.requires.fit.whole.whole) held)
