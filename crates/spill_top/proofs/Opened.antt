-- What a pool answers to the asks of a plan's queries.
use Rattle.std.proofs.Common.{◌≡◌, ◌∙◌, ◌≤◌, ◌+◌, ◌*◌, ℕ, Bool, true, false, List, [], ◌∷◌, Option, Result, All, length, map, refl, sym, ap, subst, arith}
use Rattle.std.specs.Prelude.{nat_le, if◌then◌else◌}
use Rattle.std.specs.List.{AllByRecursion, sum_by}
use Rattle.std.specs.Option.{option_map}
use Rattle.std.proofs.lemmas.List.{length-map}
use Rattle.std.proofs.lemmas.List.Elements.{All-cons, All-nil}
use Rattle.std.proofs.lemmas.List.Sums.{sum_by-cons}
use Rattle.reservation_tree.specs.declared.errors.PoolErr.{PoolErr}
use Rattle.turn_table.specs.Face.{Spot}
use Rattle.pool_model.specs.Bytes.{bytes_of}
use Rattle.pool_model.specs.State.{Opening}
use Rattle.pool.specs.Asking.{Admits, refusal_in}
use Rattle.pool.specs.declared.ask.Ask.{Ask}
use Rattle.pool.specs.declared.item.Item.{Item}
use Rattle.pool.specs.Remaining.{all_left, left_in, quotas_of}
use Rattle.pool.specs.Remaining as remaining
use Rattle.pool.specs.Seating.{state_in}
use Rattle.pool.specs.Sitting.{Sitting}
use Rattle.query_plan.specs.declared.plan.Query.{Query}
use Rattle.query_plan.specs.Sizes.{slots_of}
use Rattle.spill_top.specs.Jobs.{Work, begun, work_of}
use Rattle.spill_top.specs.Reserving.{refusals}
use Rattle.spill_top.specs.Together.{ask_of, ending_of, job_with}
use Rattle.spill_top.proofs.Coming.{IsForRoom, Shape, all_begin, all_for_room, refused_as, seen_in, shapes}
use Rattle.spill_top.proofs.Phases.{refusals_len}

-- what was asked for, in the pool's words
pub asks_so : (slice asks : List Ask) (queries planned : List Query) (block_len len : ℕ) → slice ≡ asks → asks ≡ map (ask_of block_len) queries → queries ≡ planned → len ≡ block_len → slice ≡ map (ask_of len) planned
asks_so slice asks queries planned block_len len a b c d = a ∙ b ∙ ap (map (ask_of block_len)) c ∙ ap (λ (n : ℕ). map (ask_of n) planned) (sym d)

-- each query asks for one session
pub one_each : (block_len : ℕ) (queries : List Query) → All (λ (ask : Ask). 1 ≤ ask.count) (map (ask_of block_len) queries)
one_each block_len [] = All-nil (λ (ask : Ask). 1 ≤ ask.count)
one_each block_len (query ∷ queries) = All-cons (λ (ask : Ask). 1 ≤ ask.count) (ask_of block_len query) (map (ask_of block_len) queries) (omega arith) (one_each block_len queries)

-- and for its quota
pub quotas_are : (block_len : ℕ) (queries : List Query) → quotas_of (map (ask_of block_len) queries) ≡ sum_by (λ query. query.quota) queries
quotas_are block_len [] = refl
quotas_are block_len (query ∷ queries) =
    let split = sum_by-cons (λ (q : Query). q.quota) query queries in
    let rest = quotas_are block_len queries in
    omega (arith, split, rest)

-- the quotas of one session each are no more than those of all sessions
once : (test : Bool) (fragments quota : ℕ) → quota ≤ quota * (if test then 1 else fragments + 1)
once true fragments quota = omega arith
once false fragments quota = omega arith

pub quotas_once : (queries : List Query) → sum_by (λ query. query.quota) queries ≤ sum_by slots_of queries
quotas_once [] = omega arith
quotas_once (query ∷ queries) =
    let one = sum_by-cons (λ (q : Query). q.quota) query queries in
    let all = sum_by-cons slots_of query queries in
    let here : query.quota ≤ slots_of query = once (nat_le query.fragments 1) query.fragments query.quota in
    let rest = quotas_once queries in
    omega (arith, one, all, here, rest)

module _ {V St : Type 0} (items : V → List St) (see : St → Sitting) (o : Opening) (told : Bool) (before mid : Spot Item) (queries : List Query) (asks : List Ask) (asks_are : asks ≡ map (ask_of o.block_len) queries) (few : length queries ≤ 16)
    (answers : List (Result V PoolErr)) (admits : Admits o told asks before mid (map (seen_in items see) answers)) (fresh : map refusal_in (map (seen_in items see) answers) ≡ remaining.refusals asks (all_left o)) where
  pub admits_so : Admits o told (map (ask_of o.block_len) queries) before mid (map (seen_in items see) answers)
  admits_so = subst (λ (xs : List Ask). Admits o told xs before mid (map (seen_in items see) answers)) asks_are admits

  refused_so : map refusal_in (map (seen_in items see) answers) ≡ remaining.refusals (map (ask_of o.block_len) queries) (all_left o)
  refused_so = fresh ∙ ap (λ (xs : List Ask). remaining.refusals xs (all_left o)) asks_are

  enough : length queries ≤ (all_left o).numbers
  enough = omega (arith, few)

  pub shapes_so : AllByRecursion Shape (map (seen_in items see) answers)
  shapes_so =
      shapes o.block_len queries (map (seen_in items see) answers) (left_in (state_in o admits_so.entered)) admits_so.entered mid.knows.seen admits_so.answered
      (subst (AllByRecursion IsForRoom) (sym refused_so) (all_for_room o.block_len queries (all_left o) enough))

  module _ (S K : Type 0) (remaining_in : S → Option (List ℕ)) (reads : S → ℕ) (contents : K → Option (List ℕ)) (writes : K → ℕ) where
    pub begin_so : map (work_of {S = S} {K = K} remaining_in reads contents writes) (map job_with (map (seen_in items see) answers)) ≡ map begun (refusals o.block_len (bytes_of o.block_len o.blocks) queries)
    begin_so =
        all_begin remaining_in reads contents writes (map (seen_in items see) answers) ∙ ap (λ (rs : List (Option PoolErr)). map begun (map (option_map ending_of) rs)) refused_so
        ∙ ap (map begun) (refused_as o.block_len queries (all_left o) enough)

    -- as many answers as queries
    pub len_so : length answers ≡ length queries
    len_so =
        sym (length-map answers (seen_in items see)) ∙ sym (length-map (map (seen_in items see) answers) (job_with {S = S} {K = K}))
        ∙ sym (length-map (map job_with (map (seen_in items see) answers)) (work_of {S = S} {K = K} remaining_in reads contents writes))
        ∙ ap (λ (ws : List Work). length ws) begin_so ∙ length-map (refusals o.block_len (bytes_of o.block_len o.blocks) queries) begun ∙ refusals_len o.block_len (bytes_of o.block_len o.blocks) queries
