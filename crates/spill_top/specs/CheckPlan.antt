-- The plan of a check of the program: its query, its pool, and the table that it reads.
use Rattle.std.specs.Prelude.{◌*◌, ◌≤◌, codes, ℕ, Bool, List, [], ◌∷◌, Option, Some, None}
use Rattle.table_gen.specs.Table.{table_bytes}
use Rattle.pin_core.specs.declared.conf.PoolConf.{PoolConf}
use Rattle.row_codec.specs.declared.values.Agg.TheVariants.{Count, Sum}
use Rattle.row_codec.specs.declared.values.Kind.TheVariants.{Int}
use Rattle.query_plan.specs.Sizes.{least_of}
use Rattle.query_plan.specs.declared.plan.Query.{Query}
use Rattle.query_run.specs.Both.{Told}
use Rattle.spill_top.specs.declared.ending.Ending.{Ending}
use Rattle.spill_top.specs.declared.words.Check.{Check}
use Rattle.spill_top.specs.Reserving.{refusal}
use Rattle.spill_top.specs.Sides.{if_told}

-- the numbers are those that words may ask for
pub record IsInRange (check : Check) : Type 0 where
  pub start : check.start ≤ 2147483647
  pub rows : check.rows ≤ 2147483647
  pub some_groups : 1 ≤ check.groups
  pub groups : check.groups ≤ 2147483647
  pub some_blocks : 1 ≤ check.blocks
  pub blocks : check.blocks ≤ 262144

-- the name of its output
abbrev pub output_name : List ℕ
output_name = codes "selfcheck.csv"

-- the query that groups the rows of the table by their key, counts each group and sums up its numbers; it may have all memory of
-- its pool
abbrev pub checking : Check → Query
checking check = record {
  page_blocks = 1;
  limit = check.blocks * 8192;
  quota = 0;
  output = output_name;
  left = record { file = []; columns = record { name = codes "k"; kind = Int } ∷ record { name = codes "v"; kind = Int } ∷ []; preds = [] };
  right = None;
  on = [];
  group = 0 ∷ [];
  aggs = Count ∷ Sum 1 ∷ [];
  fragments = 1;
}

-- with what its pool opens: a page is a block
abbrev pub checking_conf : Check → PoolConf
checking_conf check = record { blocks = check.blocks; block_len = 8192; first_name = 0; profile = 1; trace = 0 }

-- the bytes that it reads: the table
abbrev pub table_of : Check → Told
table_of check = record { left = table_bytes check.start check.rows check.groups; right = [] }

-- the same where an answer is promised: where all slots tell what they hold
abbrev pub table_if : Bool → Check → Option Told
table_if tell check = if_told tell (Some (table_of check))

-- how its least reservation is refused, if it is
abbrev pub refused_of : Check → Option Ending
refused_of check = refusal (check.blocks * 8192) (least_of (checking check) 8192) (check.blocks * 8192)
