-- The plan of a check is one that runs, and what its query says is said of the check.
use Rattle.std.proofs.Common.{◌≡◌, ◌≢◌, ◌≤◌, ℕ, Bool, true, false, List, [], ◌∷◌, Option, Some, None, codes, IfErr, IsSome, Result, Ok, Err, true≢false, inl, inr, arith, refl, subst, sym, ap, ◌∙◌, ◌*◌}
use Rattle.std.specs.Prelude.{◌⊎◌, eqb, nat_le}
use Rattle.std.proofs.lemmas.Bool.{cases_Bool}
use Rattle.std.proofs.lemmas.Map.Keys.{IsDistinct-cons}
use Rattle.std.proofs.lemmas.List.Elements.{All-cons, All-nil}
use Rattle.outside.specs.Counts.{Rose}
use Rattle.row_codec.specs.declared.values.Agg.TheVariants.{Count, Sum}
use Rattle.row_codec.specs.declared.values.Kind.TheVariants.{Int, Wide}
use Rattle.pool_model.specs.Bytes.{bytes_of}
use Rattle.store_api.specs.Shapes.{IsKeyColumn, IsOverInts}
use Rattle.pin_core.specs.declared.conf.PoolConf.{PoolConf}
use Rattle.query_plan.specs.Sizes.{groups, page_len}
use Rattle.query_plan.specs.declared.plan.Query.{Query}
use Rattle.query_plan.specs.declared.plan.Side.{Side}
use Rattle.query_run.specs.Answer.{Numbers, WroteFront}
use Rattle.query_run.specs.Both.{Told}
use Rattle.query_run.specs.Causes.{OfPool}
use Rattle.query_run.specs.Input.{IsRefusal}
use Rattle.query_run.specs.Plans.{IsAbout, IsRunnable, IsSide}
use Rattle.query_run.specs.Refused.{SaysOfInputs, Source, source}
use Rattle.query_plan.specs.declared.outcome.QueryErr.{QueryErr}
use Rattle.query_plan.specs.declared.outcome.QueryErr.TheVariants as query
use Rattle.query_plan.specs.declared.outcome.Ran.{Ran}
use Rattle.spill_top.specs.CheckPlan.{IsInRange, checking, checking_conf, refused_of, table_if, table_of}
use Rattle.spill_top.specs.Checking.{IsCheckStop}
use Rattle.spill_top.specs.Headline.{page_bytes}
use Rattle.spill_top.specs.Jobs.{LeavesPart}
use Rattle.spill_top.specs.Pooled.{HasMemoryFor, IsPoolStop}
use Rattle.spill_top.specs.Sides.{if_told}
use Rattle.spill_top.specs.Reserving.{refusal}
use Rattle.spill_top.specs.declared.words.Check.{Check}
use Rattle.spill_top.proofs.CountPlan.{none_distinct}
use Rattle.spill_top.proofs.OneInput.{fault_alone, refused_alone}
use Rattle.spill_top.proofs.TableAccepted.{table_accepted, table_long}

two-columns : (check : Check) → IsSide (checking check).left
two-columns check =
    record {
      some = omega arith;
      few = omega arith;
      narrow = All-cons (λ column. column.kind ≢ Wide) (record { name = codes "k"; kind = Int }) (record { name = codes "v"; kind = Int } ∷ []) (λ same. cc)
          (All-cons (λ column. column.kind ≢ Wide) (record { name = codes "v"; kind = Int }) [] (λ same. cc) (All-nil (λ column. column.kind ≢ Wide)));
      preds = All-nil (IsAbout (checking check).left.columns);
    }

pub check_runs : (check : Check) → IsRunnable (checking check)
check_runs check =
    record {
      paged = refl;
      left = two-columns check;
      right = tt;
      join = tt;
      does = inl refl;
      shape = λ groups. record {
        some = omega arith;
        distinct = IsDistinct-cons eqb 0 [] tt none_distinct;
        keys = All-cons (IsKeyColumn (Int ∷ Int ∷ [])) 0 [] (Int, refl, λ same. cc) (All-nil (IsKeyColumn (Int ∷ Int ∷ [])));
        aggs = All-cons (IsOverInts (Int ∷ Int ∷ [])) Count (Sum 1 ∷ []) tt (All-cons (IsOverInts (Int ∷ Int ∷ [])) (Sum 1) [] refl (All-nil (IsOverInts (Int ∷ Int ∷ []))));
      };
      keys = omega arith;
      aggs = omega arith;
      none = λ (groups_none : groups (checking check) ≡ false). absurd (true≢false groups_none);
    }

-- a reservation that is not refused fits
fits : (limit wanted : ℕ) → refusal limit wanted limit ≡ None → wanted ≤ limit
fits limit wanted none = elim (cases_Bool (nat_le wanted limit)) [
  | inl less ↦ grind (arith, less)
  | inr more ↦ absurd (cc (rw more at none))
]

-- its pool has the memory for it
pub check_fits : (check : Check) → IsInRange check → refused_of check ≡ None → HasMemoryFor (checking check) (checking_conf check)
unfolding bytes_of
check_fits check range none =
    let some = range.some_blocks in
    let few = range.blocks in
    record {
      opens = record { block_len = refl; some = some; blocks = omega (arith, few); memory = omega (arith, few); profile = inl refl };
      first = refl;
      least = fits (check.blocks * 8192) 163840 none;
      allowed = fits (check.blocks * 8192) 163840 none;
    }

-- what holds where nothing is told, and where the table is told if slots tell, holds of what they tell
pub if_table : (tell : Bool) (check : Check) (holds : Option Told → Type 0) → holds None → (tell ≡ true → holds (Some (table_of check))) → holds (table_if tell check)
if_table true check holds none told = told refl
if_table false check holds none told = none

-- what is left of an output whose query stopped
pub part_left : (tell : Bool) (check : Check) (before now : Option (List ℕ)) (side : Option Side) → (IsSome side → now ≡ before)
    → (now ≡ before) ⊎ (tell ≡ true → WroteFront (checking check) page_bytes (Some (table_of check)) before now)
    → LeavesPart (checking check) page_bytes (table_if tell check) before now side
part_left tell check before now (Some side) same either = same refl
part_left tell check before now None same (inl kept) = inl kept
part_left tell check before now None same (inr front) = inr (if_table tell check (λ told. WroteFront (checking check) page_bytes told before now) tt front)

-- the table is refused for nothing
never-refused : (check : Check) (why : QueryErr) → IsInRange check → IsRefusal (checking check) page_bytes (table_of check).left why → ⊥
never-refused check why range (inl refused) = let accepted = table_accepted check range in let whole = accepted.whole in absurd (cc (sym refused, whole))
never-refused check why range (inr large) = let accepted = table_accepted check range in let fits = accepted.fits in let more = large.1 in omega (arith, fits, more)

never-rose : Rose 0 0 → ⊥
never-rose rose = let more = rose (omega arith) in omega (arith, more)

if-table : (tell : Bool) (check : Check) (both : Option Told) → both ≡ Some (table_of check) → if_told tell both ≡ table_if tell check
if-table true check both is = is
if-table false check both is = refl

-- why its query stopped
pub check_stop : (check : Check) (tell : Bool) (quota : ℕ) (slots_failed write_failed : Type 0) (rest : Option (List ℕ)) (rights : Source) (why : QueryErr) → IsInRange check
    → SaysOfInputs (checking check) page_bytes (source (Some (table_of check).left) rest 0 0) rights why → OfPool (IsPoolStop (checking check) page_bytes (table_if tell check) quota slots_failed) why → (why ≡ query.SinkFault → write_failed)
    → IsCheckStop check tell quota slots_failed write_failed why
check_stop check tell quota slots_failed write_failed rest rights (query.SourceFault side) range says stop failed = absurd (never-rose (fault_alone (checking check) (query.SourceFault side) refl says (side, refl)))
check_stop check tell quota slots_failed write_failed rest rights (query.BadHeader side) range says stop failed = absurd (never-refused check (query.BadHeader side) range (refused_alone (checking check) (query.BadHeader side) refl says tt))
check_stop check tell quota slots_failed write_failed rest rights (query.BadCsv side number) range says stop failed = absurd (never-refused check (query.BadCsv side number) range (refused_alone (checking check) (query.BadCsv side number) refl says tt))
check_stop check tell quota slots_failed write_failed rest rights (query.BadField side number column) range says stop failed =
    absurd (never-refused check (query.BadField side number column) range (refused_alone (checking check) (query.BadField side number column) refl says tt))
check_stop check tell quota slots_failed write_failed rest rights (query.TooLarge side) range says stop failed = absurd (never-refused check (query.TooLarge side) range (refused_alone (checking check) (query.TooLarge side) refl says tt))
check_stop check tell quota slots_failed write_failed rest rights (query.RowTooLong side number bytes) range says stop failed =
    absurd (never-refused check (query.RowTooLong side number bytes) range (refused_alone (checking check) (query.RowTooLong side number bytes) refl says tt))
check_stop check tell quota slots_failed write_failed rest rights query.SinkFault range says stop failed = failed refl
check_stop check tell quota slots_failed write_failed rest rights (query.Pool e) range says stop failed = stop

-- as many rows were read as the table has
pub all_rows : (check : Check) (tell : Bool) (ran : Ran) → IsInRange check → Numbers (checking check) page_bytes tell ran (table_of check) → ran.left ≡ check.rows
all_rows check tell ran range numbers = numbers.left ∙ table_long check range

-- the same of what a query says of its own plan, pages and bytes
pub check_stop_of : (check : Check) (tell : Bool) (quota : ℕ) (slots_failed write_failed : Type 0) (plan : Query) (page : ℕ) (both : Option Told) (told rest : Option (List ℕ)) (rights : Source) (why : QueryErr) → plan ≡ checking check → page ≡ page_bytes
    → told ≡ Some (table_of check).left → both ≡ Some (table_of check) → IsInRange check → SaysOfInputs plan page (source told rest 0 0) rights why
    → OfPool (IsPoolStop plan page (if_told tell both) quota slots_failed) why → (why ≡ query.SinkFault → write_failed)
    → IsCheckStop check tell quota slots_failed write_failed why
check_stop_of check tell quota slots_failed write_failed plan page both told rest rights why planned paged is table range says stop failed =
    check_stop check tell quota slots_failed write_failed rest rights why range
    (subst (λ (o : Option (List ℕ)). SaysOfInputs (checking check) page_bytes (source o rest 0 0) rights why) is
    (subst (λ (n : ℕ). SaysOfInputs (checking check) n (source told rest 0 0) rights why) paged
    (subst (λ (q : Query). SaysOfInputs q page (source told rest 0 0) rights why) planned says)))
    (subst (λ (o : Option Told). OfPool (IsPoolStop (checking check) page_bytes o quota slots_failed) why) (if-table tell check both table)
    (subst (λ (n : ℕ). OfPool (IsPoolStop (checking check) n (if_told tell both) quota slots_failed) why) paged
    (subst (λ (q : Query). OfPool (IsPoolStop q page (if_told tell both) quota slots_failed) why) planned stop))) failed

pub part_of : {K : Type 0} (contents : K → Option (List ℕ)) (old new : K) (tell : Bool) (check : Check) (plan : Query) (page : ℕ) (told : Option Told) (A : Type 0) (side : Option Side) → plan ≡ checking check → page ≡ page_bytes
    → told ≡ Some (table_of check) → (IsSome side → new ≡ old) → (new ≡ old) ⊎ (A × (tell ≡ true → WroteFront plan page told (contents old) (contents new)))
    → LeavesPart (checking check) page_bytes (table_if tell check) (contents old) (contents new) side
part_of contents old new tell check plan page told A side planned paged is same (inl kept) = part_left tell check (contents old) (contents new) side (λ some. ap contents (same some)) (inl (ap contents kept))
part_of contents old new tell check plan page told A side planned paged is same (inr stopped) =
    part_left tell check (contents old) (contents new) side (λ some. ap contents (same some)) (inr (λ tells.
    subst (λ (o : Option Told). WroteFront (checking check) page_bytes o (contents old) (contents new)) is
    (subst (λ (n : ℕ). WroteFront (checking check) n told (contents old) (contents new)) paged
    (subst (λ (q : Query). WroteFront q page told (contents old) (contents new)) planned (stopped.1 tells)))))

-- its pages over its pool
pub check_page : (check : Check) (plan : Query) (conf : PoolConf) → plan ≡ checking check → conf ≡ checking_conf check → page_len plan conf.block_len ≡ page_bytes
check_page check plan conf planned is = rw (planned, is) refl

-- what follows from two facts of an error
pub if_err_both : {T E : Type 0} (result : Result T E) (P Q R : E → Type 0) → ((e : E) → result ≡ Err e → P e → Q e → R e) → IfErr result P → IfErr result Q → IfErr result R
if_err_both (Ok x) P Q R follows p q = tt
if_err_both (Err e) P Q R follows p q = follows e refl p q
