-- The plan of a file of which so much was read as shows it.
use Rattle.std.proofs.Common.{◌≡◌, ◌∙◌, ◌<◌, ◌≤◌, ◌*◌, ◌^◌, inl, inr, ℕ, Bool, true, false, List, Option, Some, None, IfSome, Result, Err, length, codes, refl, sym, subst, arith}
use Rattle.std.specs.Prelude.{nat_le, if◌then◌else◌}
use Rattle.std.proofs.lemmas.Bool.Decides.{leb_tells}
use Rattle.pool_model.specs.Bytes.{bytes_of}
use Rattle.pin_core.specs.calls.Setup.{OpensWith}
use Rattle.query_plan.specs.PlanOf.{document_of, plan_of, plan_of_table}
use Rattle.query_plan.specs.Rules.{KeepsRules}
use Rattle.query_plan.specs.declared.error.PlanErr.{PlanErr}
use Rattle.query_plan.specs.declared.error.PlanErr.TheVariants.{Limit}
use Rattle.query_plan.specs.declared.plan.Plan.{Plan}
use Rattle.spill_top.specs.PlanFile.{IsEnough}
use Rattle.spill_top.proofs.Runnable.{block_len_of}

otherwise : (short : Bool) (then_this else_this : Result Plan PlanErr) → short ≡ false → (if short then then_this else else_this) ≡ else_this
otherwise true then_this else_this is = cc
otherwise false then_this else_this is = refl

too-long : (bytes : List ℕ) (slots : ℕ) → 1048576 < length bytes → plan_of bytes slots ≡ Err (Limit (codes "plan"))
too-long bytes slots long =
    elim (leb_tells (length bytes) 1048576) [
      | inl short ↦ (let few = short.1 in absurd (omega (arith, few, long)))
      | inr more ↦ otherwise (nat_le (length bytes) 1048576) (plan_of_table slots (document_of bytes)) (Err (Limit (codes "plan"))) more.0
    ]

-- what was read of a file has its plan, or its cause
pub plan_same : (told : Option (List ℕ)) (text : List ℕ) (slots : ℕ) (result : Result Plan PlanErr) → IsEnough told text → plan_of text slots ≡ result → IfSome told (λ bytes. plan_of bytes slots ≡ result)
plan_same None text slots result enough is = tt
plan_same (Some bytes) text slots result (inl same) is = subst (λ (b : List ℕ). plan_of b slots ≡ result) (sym same) is
plan_same (Some bytes) text slots result (inr long) is = too-long bytes slots long.1 ∙ (sym (too-long text slots long.0) ∙ is)

-- the bytes of a plan's blocks are a number of 32 bits
pub fits_memory : (slots : ℕ) (plan : Plan) → KeepsRules slots plan → plan.blocks * plan.block_len < 2 ^ 32
fits_memory slots plan keeps = let most = keeps.memory in let up : 2 ^ 32 ≡ 4294967296 = refl in omega (arith, most, up)

-- a pool opens with them
pub opens_with : (slots : ℕ) (plan : Plan) → KeepsRules slots plan → OpensWith (record { blocks = plan.blocks; block_len = plan.block_len; first_name = 0; profile = 1; trace = 0 })
unfolding bytes_of
opens_with slots plan keeps = record { block_len = block_len_of plan.block_len keeps.block_len; some = keeps.blocks.0; blocks = keeps.blocks.1; memory = keeps.memory; profile = inl refl }

pub few_queries : (slots : ℕ) (plan : Plan) → KeepsRules slots plan → length plan.queries ≤ 16
few_queries slots plan keeps = keeps.some.1
