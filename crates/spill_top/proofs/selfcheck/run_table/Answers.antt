use Rattle.std.proofs.Common.{◌≡◌, ◌∙◌, ℕ, List, Some, IfErr, Err, [], ap, subst, sym, vec_len, rules}
use Rattle.std.proofs.lemmas.Result.{on_ok_weaker}
use Rattle.outside.specs.Counts.{Rose}
use Rattle.pin_core.specs.Tallies.{tally_of}
use Rattle.pin_core.specs.declared.conf.PoolConf.{PoolConf}
use Rattle.spill_top.specs.Pooled.{memory_of}
use Rattle.query_plan.specs.declared.plan.Query.{Query}
use Rattle.query_run.specs.Causes.{side_of}
use Rattle.query_run.specs.Plans.{IsRunnable}
use Rattle.query_plan.specs.declared.outcome.QueryErr.{QueryErr}
use Rattle.table_gen.specs.Table.{table_bytes}
use Rattle.spill_top.specs.CheckPlan.{checking, checking_conf}
use Rattle.spill_top.specs.Checking.{IsCheckStop}
use Rattle.spill_top.specs.Headline.{page_bytes}
use Rattle.spill_top.specs.Pooled.{HasMemoryFor, HaveFailed, all_tell}
use Rattle.spill_top.specs.Storing.{HaveStored, owed}
use Rattle.spill_top.proofs.CheckPlans.{check_fits, check_page, check_runs, check_stop_of, if_err_both, part_of}
use Rattle.spill_top.proofs.selfcheck.run_table.Goals as goal

pub run_pooled-requires-clause-query : goal.run_pooled-requires-clause-query
run_pooled-requires-clause-query g c κs within = subst (λ (plan : Query). IsRunnable plan) (sym c.requires.plan) (check_runs c.args.check)

pub run_pooled-requires-clause-memory : goal.run_pooled-requires-clause-memory
run_pooled-requires-clause-memory g c κs within =
    subst (λ (plan : Query). HasMemoryFor plan c.checking_pool-pool.result) (sym c.requires.plan)
    (subst (λ (conf : PoolConf). HasMemoryFor (checking c.args.check) conf) (sym c.checking_pool-pool.ensures) (check_fits c.args.check c.requires.range c.requires.reserved))

pub returns-clause-stored : goal.returns-clause-stored
returns-clause-stored g c =
    let table : c.new-table.result ≡ table_bytes c.args.check.start c.args.check.rows c.args.check.groups = search rules in
    on_ok_weaker c.run_pooled.result (λ stored.
    subst (λ (bytes : List ℕ). HaveStored page_bytes (owed (checking c.args.check) (memory_of (checking_conf c.args.check)) (Some (record { left = bytes; right = [] }))) (tally_of g.D.Slot c.args.slots.now.items) (tally_of g.D.Slot c.run_pooled.new.slots.items)) table
    (subst (λ (plan : Query). HaveStored page_bytes (owed plan (memory_of (checking_conf c.args.check)) (Some (record { left = c.new-table.result; right = [] }))) (tally_of g.D.Slot c.args.slots.now.items) (tally_of g.D.Slot c.run_pooled.new.slots.items)) c.requires.plan
    (subst (λ (conf : PoolConf). HaveStored conf.block_len (owed c.args.plan.now (memory_of conf) (Some (record { left = c.new-table.result; right = [] }))) (tally_of g.D.Slot c.args.slots.now.items) (tally_of g.D.Slot c.run_pooled.new.slots.items)) c.checking_pool-pool.ensures stored)))
    c.run_pooled.ensures.ran.stored

pub returns-clause-stop : goal.returns-clause-stop
returns-clause-stop g c =
    let table : c.new-table.result ≡ table_bytes c.args.check.start c.args.check.rows c.args.check.groups = search rules in
    let quota : c.len-quota.result ≡ vec_len c.args.slots.now = search rules in
    subst (λ (n : ℕ). IfErr c.run_pooled.result (IsCheckStop c.args.check (all_tell (tally_of g.D.Slot c.args.slots.now.items)) n (HaveFailed (tally_of g.D.Slot c.args.slots.now.items) (tally_of g.D.Slot c.run_pooled.new.slots.items)) (Rose (g.K.Sink.faults c.args.sink.now) (g.K.Sink.faults c.run_pooled.new.sink)))) quota
    (if_err_both c.run_pooled.result _ _ _ (λ e is says stop. check_stop_of c.args.check (all_tell (tally_of g.D.Slot c.args.slots.now.items)) _ _ _ c.args.plan.now _ (Some (record { left = c.new-table.result; right = [] })) (Some c.new-table.result) _ _ e c.requires.plan (check_page c.args.check c.args.plan.now c.checking_pool-pool.result c.requires.plan c.checking_pool-pool.ensures)
    (ap (λ (bytes : List ℕ). Some bytes) table) (ap (λ (bytes : List ℕ). Some (record { left = bytes; right = [] })) table) c.requires.range says stop (λ sink. c.run_pooled.ensures.ran.outside.sink.fault (is ∙ ap (λ (why : QueryErr). Err why) sink)))
    c.run_pooled.ensures.ran.outside.input c.run_pooled.ensures.ran.pool)

pub returns-clause-part : goal.returns-clause-part
returns-clause-part g c =
    let table : c.new-table.result ≡ table_bytes c.args.check.start c.args.check.rows c.args.check.groups = search rules in
    if_err_both c.run_pooled.result _ _ _ (λ e is same either. part_of g.K.Sink.contents _ _ (all_tell (tally_of g.D.Slot c.args.slots.now.items)) c.args.check c.args.plan.now _ (Some (record { left = c.new-table.result; right = [] })) _ (side_of e) c.requires.plan
    (check_page c.args.check c.args.plan.now c.checking_pool-pool.result c.requires.plan c.checking_pool-pool.ensures) (ap (λ (bytes : List ℕ). Some (record { left = bytes; right = [] })) table) same either)
    c.run_pooled.ensures.ran.outside.untouched c.run_pooled.ensures.ran.outside.stopped
