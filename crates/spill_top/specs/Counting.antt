-- The plan of a count, and its pool.
use Rattle.std.specs.Prelude.{[], ◌∷◌, None}
use Rattle.row_codec.specs.declared.values.Agg.TheVariants.{Count}
use Rattle.row_codec.specs.declared.values.Kind.TheVariants.{Text}
use Rattle.pin_core.specs.declared.conf.PoolConf.{PoolConf}
use Rattle.query_plan.specs.declared.plan.Query.{Query}
use Rattle.spill_top.specs.Words.{Command}

-- the query that groups the rows of the command's file by the command's column, a column of texts and the only one that
-- is read, and counts each group; the report has no name
abbrev pub counting : Command → Query
counting command = record {
  page_blocks = 1;
  limit = 8388608;
  quota = 0;
  output = [];
  left = record { file = command.file; columns = record { name = command.column; kind = Text } ∷ []; preds = [] };
  right = None;
  on = [];
  group = 0 ∷ [];
  aggs = Count ∷ [];
  fragments = 1;
}

-- with what its pool opens: a page is a block, and all memory is as much as it may reserve
abbrev pub counting_conf : PoolConf
counting_conf = record { blocks = 1024; block_len = 8192; first_name = 0; profile = 1; trace = 0 }
