-- Why a count stopped, and what stands in its report then.
use Rattle.std.proofs.Common.{◌≡◌, ◌∙◌, ◌⊎◌, ◌*◌, ◌<◌, ◌%◌, inl, inr, ℕ, Bool, true, false, List, [], Option, Some, None, IfSome, IsSome, Result, Err, refl, sym, ap, subst, arith}
use Rattle.std.specs.Io.KnownBytes.{Appends, Keeps}
use Rattle.std.proofs.lemmas.Bool.{false≢true}
use Rattle.std.proofs.lemmas.Option.{none-some, same_Some}
use Rattle.outside.specs.Counts.{Rose}
use Rattle.outside.specs.Faults.{Faults, NoneFailed}
use Rattle.outside.proofs.Stopping.{ends_later}
use Rattle.outside.specs.Told.{GivesBytes}
use Rattle.csv_edge.specs.Written.{AppendsFront}
use Rattle.reservation_tree.specs.declared.errors.PoolErr.{PoolErr}
use Rattle.reservation_tree.specs.declared.errors.PoolErr.TheVariants as pool
use Rattle.pin_core.specs.declared.conf.PoolConf.{PoolConf}
use Rattle.pin_core.specs.declared.tally.Tally.{Tally}
use Rattle.spill_top.specs.Pooled.{memory_of}
use Rattle.query_plan.specs.Sizes.{page_len}
use Rattle.query_plan.specs.declared.plan.Query.{Query}
use Rattle.query_run.specs.Both.{Told, both_told}
use Rattle.query_run.specs.Causes.{OfPool, side_of}
use Rattle.query_run.specs.Through.{need}
use Rattle.query_plan.specs.declared.outcome.QueryErr.{QueryErr}
use Rattle.query_plan.specs.declared.outcome.QueryErr.TheVariants as query
use Rattle.spill_top.specs.Counting.{counting, counting_conf}
use Rattle.spill_top.specs.Headline.{IsCause, StoresCount, page_bytes, told_with}
use Rattle.spill_top.specs.OneInput.{WroteAnswerOver, WroteFrontOver}
use Rattle.spill_top.specs.Pooled.{HaveFailed, IsPoolStop, all_tell}
use Rattle.spill_top.specs.Sides.{if_told}
use Rattle.spill_top.specs.Refusals.{IsOfPool, refusal_for, refusal_of_pool}
use Rattle.spill_top.specs.Report.{Tells, TellsOrMisses}
use Rattle.spill_top.specs.Storing.{HaveStored, owed}
use Rattle.spill_top.specs.Words.{Command}
use Rattle.spill_top.specs.declared.count.Stop.{Stop}
use Rattle.spill_top.specs.declared.count.Stop.TheVariants.{Report, Memory, Short, Refused, Broken}
use Rattle.spill_top.specs.declared.report.Refusal.{Refusal}
use Rattle.spill_top.proofs.CountPlan.{page_is}

-- ---- the plan is that of the command, and the source gives the bytes of its file

pub answer_so : (command : Command) (plan : Query) (block_len : ℕ) (told given before now : Option (List ℕ)) → plan ≡ counting command → block_len ≡ 8192 → GivesBytes told given
    → WroteAnswerOver plan (page_len plan block_len) given before now → WroteAnswerOver (counting command) page_bytes told before now
answer_so command plan block_len None given before now planned len gives wrote = tt
answer_so command plan block_len (Some bytes) given before now planned len gives wrote =
    subst (λ (o : Option (List ℕ)). WroteAnswerOver (counting command) page_bytes o before now) gives
    (subst (λ (n : ℕ). WroteAnswerOver (counting command) n given before now) (page_is command plan block_len planned len)
    (subst (λ (q : Query). WroteAnswerOver q (page_len plan block_len) given before now) planned wrote))

pub front_so : (command : Command) (plan : Query) (block_len : ℕ) (told given before now : Option (List ℕ)) → plan ≡ counting command → block_len ≡ 8192 → GivesBytes told given
    → WroteFrontOver plan (page_len plan block_len) given before now → WroteFrontOver (counting command) page_bytes told before now
front_so command plan block_len None given before now planned len gives wrote = tt
front_so command plan block_len (Some bytes) given before now planned len gives wrote =
    subst (λ (o : Option (List ℕ)). WroteFrontOver (counting command) page_bytes o before now) gives
    (subst (λ (n : ℕ). WroteFrontOver (counting command) n given before now) (page_is command plan block_len planned len)
    (subst (λ (q : Query). WroteFrontOver q (page_len plan block_len) given before now) planned wrote))

-- what was stored beside what it must keep is more than nothing
least-stored : (block_len bytes : ℕ) (before now : Tally) → HaveStored block_len bytes before now → HaveStored block_len 0 before now
least-stored block_len bytes before now stored = λ all. let more = stored all in omega (arith, more)

pub stored_so : (command : Command) (plan : Query) (conf : PoolConf) (told given : Option (List ℕ)) (slots slots_now : Tally) → plan ≡ counting command → conf ≡ counting_conf → GivesBytes told given
    → HaveStored conf.block_len (owed plan (memory_of conf) (both_told given (Some []))) slots slots_now → StoresCount told slots slots_now command
stored_so command plan conf told given slots slots_now planned pooled gives stored =
    stored-over told given gives
    (subst (λ (q : Query). HaveStored page_bytes (owed q (memory_of counting_conf) (both_told given (Some []))) slots slots_now) planned
    (subst (λ (c : PoolConf). HaveStored c.block_len (owed plan (memory_of c) (both_told given (Some []))) slots slots_now) pooled stored))
  where
    stored-over : (told given : Option (List ℕ)) → GivesBytes told given → HaveStored page_bytes (owed (counting command) (memory_of counting_conf) (both_told given (Some []))) slots slots_now → StoresCount told slots slots_now command
    stored-over None given gives stored = least-stored page_bytes _ slots slots_now stored
    stored-over (Some bytes) given gives stored = subst (λ (o : Option (List ℕ)). HaveStored page_bytes (owed (counting command) (memory_of counting_conf) (both_told o (Some []))) slots slots_now) gives stored

-- ---- what a pool stopped it with

-- what is so of the bytes that the source gives is so of those under the file
untold : (tell : Bool) (P : Told → Type 0) → IfSome (if_told tell None) P
untold true P = tt
untold false P = tt

with-told : (tell : Bool) (told given : Option (List ℕ)) (P : Told → Type 0) → GivesBytes told given → IfSome (if_told tell (both_told given (Some []))) P → IfSome (if_told tell (both_told told (Some []))) P
with-told tell None given P gives is = untold tell P
with-told tell (Some bytes) given P gives is = subst (λ (o : Option (List ℕ)). IfSome (if_told tell (both_told o (Some []))) P) gives is

none-left : (quota : ℕ) → quota % 1 ≡ 0
none-left quota = omega arith

pool_cause : (told given : Option (List ℕ)) (before now quota : ℕ) (slots slots_now : Tally) (command : Command) (why : PoolErr) (refusal : Refusal) → refusal_of_pool why ≡ Some refusal
    → GivesBytes told given → quota ≡ slots.slots → IsPoolStop (counting command) page_bytes (told_with slots given) quota (HaveFailed slots slots_now) why → IsCause told before now slots slots_now command refusal
pool_cause told given before now quota slots slots_now command (pool.NoReservation tracker wanted room) refusal is gives many stop = absurd stop
pool_cause told given before now quota slots slots_now command (pool.ScratchFull blocks free) refusal is gives many stop =
    subst (IsCause told before now slots slots_now command) (same_Some _ refusal is) (stop.0.0, stop.0.1 ∙ none-left quota, subst (λ (n : ℕ). IfSome (told_with slots told) (λ both. n < need (counting command) page_bytes both * 1)) many (with-told (all_tell slots) told given _ gives stop.1))
pool_cause told given before now quota slots slots_now command (pool.WriteFault entry) refusal is gives many stop = subst (IsCause told before now slots slots_now command) (same_Some _ refusal is) stop
pool_cause told given before now quota slots slots_now command (pool.ReadFault entry) refusal is gives many stop = subst (IsCause told before now slots slots_now command) (same_Some _ refusal is) stop
pool_cause told given before now quota slots slots_now command (pool.TooManyTrackers count) refusal is gives many stop = absurd stop
pool_cause told given before now quota slots slots_now command pool.NamesSpent refusal is gives many stop =
    subst (IsCause told before now slots slots_now command) (same_Some _ refusal is) (with-told (all_tell slots) told given _ gives stop)
pool_cause told given before now quota slots slots_now command pool.Memory refusal is gives many stop = absurd (none-some refusal is)
pool_cause told given before now quota slots slots_now command (pool.Stale wanted found) refusal is gives many stop = absurd stop

pool-answers : (plan : Query) (page quota : ℕ) (told : Option Told) (slots slots_now : Tally) (why : PoolErr) → IsPoolStop plan page told quota (HaveFailed slots slots_now) why → (why ≡ pool.Memory) ⊎ IsSome (refusal_of_pool why)
pool-answers plan page quota told slots slots_now (pool.NoReservation tracker wanted room) stop = absurd stop
pool-answers plan page quota told slots slots_now (pool.ScratchFull blocks free) stop = inr refl
pool-answers plan page quota told slots slots_now (pool.WriteFault entry) stop = inr refl
pool-answers plan page quota told slots slots_now (pool.ReadFault entry) stop = inr refl
pool-answers plan page quota told slots slots_now (pool.TooManyTrackers count) stop = absurd stop
pool-answers plan page quota told slots slots_now pool.NamesSpent stop = inr refl
pool-answers plan page quota told slots slots_now pool.Memory stop = inl refl
pool-answers plan page quota told slots slots_now (pool.Stale wanted found) stop = absurd stop

pub answers_so : (plan : Query) (page quota : ℕ) (told : Option Told) (slots slots_now : Tally) (e : QueryErr) → OfPool (IsPoolStop plan page told quota (HaveFailed slots slots_now)) e → OfPool (λ why. (why ≡ pool.Memory) ⊎ IsSome (refusal_of_pool why)) e
answers_so plan page quota told slots slots_now (query.SourceFault side) stop = tt
answers_so plan page quota told slots slots_now (query.BadHeader side) stop = tt
answers_so plan page quota told slots slots_now (query.BadCsv side number) stop = tt
answers_so plan page quota told slots slots_now (query.BadField side number column) stop = tt
answers_so plan page quota told slots slots_now (query.TooLarge side) stop = tt
answers_so plan page quota told slots slots_now (query.RowTooLong side number bytes) stop = tt
answers_so plan page quota told slots slots_now query.SinkFault stop = tt
answers_so plan page quota told slots slots_now (query.Pool why) stop = pool-answers plan page quota told slots slots_now why stop

-- the cause that it is to the command
pub pool_causes : (told given : Option (List ℕ)) (before now quota block_len : ℕ) (slots slots_now : Tally) (command : Command) (plan : Query) (e : QueryErr) → plan ≡ counting command → block_len ≡ 8192 → GivesBytes told given → quota ≡ slots.slots
    → OfPool (IsPoolStop plan (page_len plan block_len) (told_with slots given) quota (HaveFailed slots slots_now)) e
    → OfPool (λ why. (refusal : Refusal) → refusal_of_pool why ≡ Some refusal → IsCause told before now slots slots_now command refusal) e
pool_causes told given before now quota block_len slots slots_now command plan (query.SourceFault side) planned len gives many stop = tt
pool_causes told given before now quota block_len slots slots_now command plan (query.BadHeader side) planned len gives many stop = tt
pool_causes told given before now quota block_len slots slots_now command plan (query.BadCsv side number) planned len gives many stop = tt
pool_causes told given before now quota block_len slots slots_now command plan (query.BadField side number column) planned len gives many stop = tt
pool_causes told given before now quota block_len slots slots_now command plan (query.TooLarge side) planned len gives many stop = tt
pool_causes told given before now quota block_len slots slots_now command plan (query.RowTooLong side number bytes) planned len gives many stop = tt
pool_causes told given before now quota block_len slots slots_now command plan query.SinkFault planned len gives many stop = tt
pool_causes told given before now quota block_len slots slots_now command plan (query.Pool why) planned len gives many stop = λ refusal is.
    pool_cause told given before now quota slots slots_now command why refusal is gives many
    (subst (λ (n : ℕ). IsPoolStop (counting command) n (told_with slots given) quota (HaveFailed slots slots_now) why) (page_is command plan block_len planned len)
    (subst (λ (q : Query). IsPoolStop q (page_len plan block_len) (told_with slots given) quota (HaveFailed slots slots_now) why) planned stop))

-- where some of the answer was written, it is the pool's
of-pool : (why : PoolErr) (refusal : Refusal) → refusal_of_pool why ≡ Some refusal → IsOfPool refusal
of-pool (pool.NoReservation tracker wanted room) refusal is = absurd (none-some refusal is)
of-pool (pool.ScratchFull blocks free) refusal is = subst IsOfPool (same_Some _ refusal is) tt
of-pool (pool.WriteFault entry) refusal is = subst IsOfPool (same_Some _ refusal is) tt
of-pool (pool.ReadFault entry) refusal is = subst IsOfPool (same_Some _ refusal is) tt
of-pool (pool.TooManyTrackers count) refusal is = absurd (none-some refusal is)
of-pool pool.NamesSpent refusal is = subst IsOfPool (same_Some _ refusal is) tt
of-pool pool.Memory refusal is = absurd (none-some refusal is)
of-pool (pool.Stale wanted found) refusal is = absurd (none-some refusal is)

both : (written : Bool) → written ≡ false → written ≡ true → ⊥
both written unwritten is = false≢true (sym unwritten ∙ is)

pub pool_alone : (e : QueryErr) (refusal : Refusal) (written : Bool) → refusal_for e ≡ Some refusal → (IsSome (side_of e) → written ≡ false) → written ≡ true → IsOfPool refusal
pool_alone (query.SourceFault side) refusal written is unwritten some = absurd (both written (unwritten refl) some)
pool_alone (query.BadHeader side) refusal written is unwritten some = absurd (both written (unwritten refl) some)
pool_alone (query.BadCsv side number) refusal written is unwritten some = absurd (both written (unwritten refl) some)
pool_alone (query.BadField side number column) refusal written is unwritten some = absurd (none-some refusal is)
pool_alone (query.TooLarge side) refusal written is unwritten some = absurd (both written (unwritten refl) some)
pool_alone (query.RowTooLong side number bytes) refusal written is unwritten some = absurd (both written (unwritten refl) some)
pool_alone query.SinkFault refusal written is unwritten some = absurd (none-some refusal is)
pool_alone (query.Pool why) refusal written is unwritten some = of-pool why refusal is

-- it is no fault of the report
pub no_fault : (e : QueryErr) (refusal : Refusal) → refusal_for e ≡ Some refusal → e ≡ query.SinkFault → ⊥
no_fault e refusal is same = none-some refusal (sym (ap refusal_for same) ∙ is)

pub memory_alone : (e : QueryErr) → e ≡ query.Pool pool.Memory → e ≡ query.SinkFault → ⊥
memory_alone e memory fault = cc

-- then what a call keeps unless its sink failed stays
pub stays_so : {T X : Type 0} (result : Result T QueryErr) (e : QueryErr) (before now : X) → result ≡ Err e → (e ≡ query.SinkFault → ⊥) → (result ≡ Err query.SinkFault) ⊎ (now ≡ before) → now ≡ before
stays_so {T} result e before now is apart (inl fault) =
    let two : ◌≡◌ {A = Result T QueryErr} (Err e) (Err query.SinkFault) = sym is ∙ fault in
    let same : e ≡ query.SinkFault = cc in
    absurd (apart same)
stays_so result e before now is apart (inr same) = same

-- ---- what was written

pub front_of : (written : Bool) (Front : Type 0) → written ≡ true → (written ≡ false) ⊎ Front → Front
front_of written Front some (inl none) = absurd (both written none some)
front_of written Front some (inr front) = front

pub less_so : (written : Bool) (old new : Option (List ℕ)) (Tell Part : Type 0) {Front : Type 0} → (written ≡ false → Keeps old new) → ((Tell → Front) → Tell → Part) → (written ≡ false) ⊎ (Tell → Front) → Tell → Keeps old new ⊎ Part
less_so written old new Tell Part kept part (inl none) tell = inl (kept none)
less_so written old new Tell Part kept part (inr front) tell = inr (part front tell)

-- ---- each kind of stop

pub stop_is : (P : Stop → Type 0) (stop : Stop) → (stop ≡ Report → P Report) → (stop ≡ Memory → P Memory) → (stop ≡ Short → P Short) → ((why : Refusal) → stop ≡ Refused why → P (Refused why)) → ((why : Refusal) → stop ≡ Broken why → P (Broken why)) → P stop
stop_is P Report report memory short refused broken = report refl
stop_is P Memory report memory short refused broken = memory refl
stop_is P Short report memory short refused broken = short refl
stop_is P (Refused why) report memory short refused broken = refused why refl
stop_is P (Broken why) report memory short refused broken = broken why refl

-- ---- a line behind a report that was kept

pub keeps_same : (report : Option (List ℕ)) → Keeps report report
keeps_same None = tt
keeps_same (Some xs) = refl

appends-behind : (old mid new : Option (List ℕ)) (line : List ℕ) → Keeps old mid → Appends mid new line → Appends old new line
appends-behind None mid new line kept more = tt
appends-behind (Some xs) None new line kept more = absurd kept
appends-behind (Some xs) (Some ys) new line kept more = subst (λ (zs : List ℕ). Appends (Some zs) new line) kept more

keeps-behind : (old mid new : Option (List ℕ)) → Keeps old mid → Keeps mid new → Keeps old new
keeps-behind None mid new kept more = tt
keeps-behind (Some xs) None new kept more = absurd kept
keeps-behind (Some xs) (Some ys) new kept more = subst (λ (zs : List ℕ). Keeps (Some zs) new) kept more

front-behind : (old mid new : Option (List ℕ)) (line : List ℕ) → Keeps old mid → AppendsFront mid new line → AppendsFront old new line
front-behind old mid new line kept (n, few, more) = (n, few, appends-behind old mid new _ kept more)

pub told_behind : (line : List ℕ) (old mid new : Option (List ℕ)) (before between now : Faults) → Keeps old mid → NoneFailed before between → Tells line mid new between now → Tells line old new before now
told_behind line old mid new before between now kept same (inl (more, quiet)) = inl (appends-behind old mid new line kept more, (quiet.0 ∙ same.0, quiet.1 ∙ same.1))
told_behind line old mid new before between now kept same (inr (fails, front)) =
    inr ((subst (λ (n : ℕ). Rose n now.count) same.0 fails.0, ends_later before.first between.first now.first new same.1 fails.1), front-behind old mid new line kept front)

pub missed_behind : (line : List ℕ) (old mid new : Option (List ℕ)) (before between now : Faults) → Keeps old mid → NoneFailed before between → TellsOrMisses line mid new between now → TellsOrMisses line old new before now
missed_behind line old mid new before between now kept same (inl tells) = inl (told_behind line old mid new before between now kept same tells)
missed_behind line old mid new before between now kept same (inr (more, quiet)) = inr (keeps-behind old mid new kept more, (quiet.0 ∙ same.0, quiet.1 ∙ same.1))
