use Rattle.std.proofs.Common.{rules, ◌≡◌, ℕ, ap, sym, subst, arith}
use Rattle.store_api.specs.Conditions.{IsBlockCount}
use Rattle.store_api.specs.Holdings.{Holdings}
use Rattle.store_api.proofs.Growing.{grows_refl, grows_trans}
use Rattle.bucket_table.specs.Filling.{Fills}
use Rattle.bucket_table.specs.Lending.{WasShort}
use Rattle.bucket_table.specs.Regions.{Region}
use Rattle.bucket_table.proofs.Entered.{loans_more, loans_none}
use Rattle.bucket_table.proofs.Filled.{fills_more, fills_none, has_space}
use Rattle.bucket_table.proofs.Held.{any_err, short_before}
use Rattle.bucket_table.proofs.area.Area.fill.Goals as goal

pub loop-i-init : goal.loop-i-init
loop-i-init g c = record {
  filled = fills_none c.args.c.now.tracker c.args.self.now (g.St.Store.holds c.args.store.now) c.requires.client;
  grows = grows_refl (g.St.Store.signs c.args.store.now);
  entries = loans_none (g.St.Store.signs c.args.store.now).trail;
}

pub add-requires : goal.add-requires
add-requires g c =
    let inv = c.loop-i.invariant in
    let is = has_space c.args.c.now.tracker c.loop-i._i c.args.count c.args.self.now c.loop-i.self (g.St.Store.holds c.args.store.now) (g.St.Store.holds c.loop-i.store) inv.filled c.loop-i-test.true c.requires.block_len c.requires.unused c.requires.short in
    record {
      client = inv.filled.lends.is;
      blocks = subst IsBlockCount (sym is.blocks) c.requires.blocks;
      block_len = is.block_len;
      unused = is.unused;
      short = is.short;
    }

pub returns-in_err-add-clause-err : goal.returns-in_err-add-clause-err
returns-in_err-add-clause-err g c =
    let t = c.args.c.now.tracker in
    let i = c.loop-i._i in
    let old = g.St.Store.holds c.args.store.now in
    let same = c.in_err-add.ensures.err in
    let held = c.in_err-add.ensures.held in
    any_err c.from_residual.result (
      i,
      subst (λ (r : Region). Fills t i c.args.self.now r old (g.St.Store.holds c.add.new.store)) (sym same)
          (subst (λ (h : Holdings). Fills t i c.args.self.now c.loop-i.self old h) (sym held) c.loop-i.invariant.filled),
    )

pub returns-in_err-add-clause-cause : goal.returns-in_err-add-clause-cause
returns-in_err-add-clause-cause g c =
    let t = c.args.c.now.tracker in
    let blocks : c.loop-i.self.blocks ≡ c.args.self.now.blocks = ap (λ (r : Region). r.blocks) c.loop-i.invariant.filled.region in
    let came : WasShort t c.args.self.now.blocks (g.St.Store.signs c.args.store.now) (g.St.Store.signs c.add.new.store) c.in_err-add.field-0.0 =
    subst (λ (n : ℕ). WasShort t n (g.St.Store.signs c.args.store.now) (g.St.Store.signs c.add.new.store) c.in_err-add.field-0.0) blocks
    (short_before c.in_err-add.field-0.0 t c.loop-i.self.blocks (g.St.Store.signs c.args.store.now) (g.St.Store.signs c.loop-i.store) (g.St.Store.signs c.add.new.store) c.loop-i.invariant.grows c.in_err-add.ensures.cause)
    in
    search (rules, came)

pub returns-in_err-add-clause-grows : goal.returns-in_err-add-clause-grows
returns-in_err-add-clause-grows g c = grows_trans _ _ _ c.loop-i.invariant.grows c.in_err-add.ensures.grows

pub returns-in_err-add-clause-entries : goal.returns-in_err-add-clause-entries
returns-in_err-add-clause-entries g c = loans_more _ _ _ c.loop-i.invariant.entries c.in_err-add.ensures.entries

pub loop-i-preserved : goal.loop-i-preserved
loop-i-preserved g c = record {
  filled = fills_more c.args.c.now.tracker c.loop-i._i _ _ _ _ _ _ c.loop-i.invariant.filled c.in_ok-add.ensures.ok;
  grows = grows_trans _ _ _ c.loop-i.invariant.grows c.in_ok-add.ensures.grows;
  entries = loans_more _ _ _ c.loop-i.invariant.entries c.in_ok-add.ensures.entries;
}

pub returns : goal.returns
returns g c =
    let inv = c.loop-i.invariant in
    let end : c.loop-i._i ≡ c.args.count = omega (arith, c.loop-i-test.false, c.loop-i.auto._i-end) in
    record {
      ok = subst (λ (n : ℕ). Fills c.args.c.now.tracker n c.args.self.now c.loop-i.self (g.St.Store.holds c.args.store.now) (g.St.Store.holds c.loop-i.store)) end inv.filled;
      err = tt;
      cause = tt;
      grows = inv.grows;
      entries = inv.entries;
    }
