-- The plan of a document, or its first fault.
use Rattle.std.specs.Prelude.{codes, ℕ, Bool, false, ◌||◌, List, [], sum_by, take, length, nat_le, if◌then◌else◌, Option, Some, None, Result, Ok, Err, bytes_eq, option_map}
use Rattle.std.specs.Option.{option_or}
use Rattle.std.specs.List.{list_any}
use Rattle.std.specs.Str.{is_utf8}
use Rattle.toml.specs.Data.{Members, get_member}
use Rattle.toml.specs.Parse.{parse_document}
use Rattle.query_plan.specs.declared.plan.Plan.{Plan}
use Rattle.query_plan.specs.declared.plan.Query.{Query}
use Rattle.query_plan.specs.declared.plan.SidePlan.{SidePlan}
use Rattle.query_plan.specs.declared.plan.TracePlan.{TracePlan}
use Rattle.query_plan.specs.declared.error.PlanErr.{PlanErr}
use Rattle.query_plan.specs.declared.error.PlanErr.TheVariants.{Syntax, Limit, SameOutput, QuotaSum}
use Rattle.query_plan.specs.Values.{under, number_of, number_at, text_of, list_at, table_of}
use Rattle.query_plan.specs.Drafts.{query_in}
use Rattle.query_plan.specs.Faults.{key_in, member_in, first_from, table_fault}
use Rattle.query_plan.specs.Resolved.{query_of}
use Rattle.query_plan.specs.Keys.{top_rows}
use Rattle.query_plan.specs.Sizes.{slots_of}

-- the query writes the file
abbrev pub writes : List ℕ → Query → Bool
writes name query = bytes_eq query.output name

-- the right side reads the file
abbrev pub reads_right : List ℕ → Option SidePlan → Bool
reads_right name None = false
reads_right name (Some side) = bytes_eq side.file name

-- the query reads the file
abbrev pub reads : List ℕ → Query → Bool
reads name query = bytes_eq query.left.file name || reads_right name query.right

-- an output that is an earlier output, or a file of any query
abbrev pub output_fault : List Query → ℕ → Query → Option PlanErr
output_fault queries place query =
    if list_any (writes query.output) (take place queries) || list_any (reads query.output) queries
    then Some (SameOutput (key_in (member_in (codes "query") place) (codes "output"))) else None

-- a trace whose output is one of a query, or a file of any query
abbrev pub trace_fault : List Query → Option TracePlan → Option PlanErr
trace_fault queries None = None
trace_fault queries (Some trace) =
    if list_any (writes trace.output) queries || list_any (reads trace.output) queries then Some (SameOutput (codes "trace")) else None

-- quotas of all sessions that are together more than the slots
abbrev pub quota_fault : ℕ → List Query → Option PlanErr
quota_fault slots queries = if nat_le (sum_by slots_of queries) slots then None else Some (QuotaSum (codes "query"))

-- the trace that a table asks for
abbrev pub trace_in : Members → Option TracePlan
trace_in entries =
    option_map (λ value. record { output = text_of value; entries = under (codes "trace_entries") entries number_of 1 }) (get_member (codes "trace") entries)

-- the plan that a table says, once nothing is wrong with it
unfoldable pub plan_in : Members → Plan
plan_in entries = record {
  block_len = number_at (codes "block_len") entries;
  blocks = number_at (codes "blocks") entries;
  writers = number_at (codes "writers") entries;
  trace = trace_in entries;
  queries = list_at (codes "query") entries (λ value. query_of (query_in (table_of value)));
}

-- the first fault of a document's table: its keys, then its outputs, the trace last, then its quotas
abbrev pub plan_fault : ℕ → Members → Option PlanErr
plan_fault slots entries =
    let queries = (plan_in entries).queries in
    option_or (table_fault top_rows [] entries)
    (option_or (first_from (output_fault queries) 0 queries)
    (option_or (trace_fault queries (plan_in entries).trace) (quota_fault slots queries)))

-- the plan, or else its fault
abbrev pub plan_or : Option PlanErr → Plan → Result Plan PlanErr
plan_or None plan = Ok plan
plan_or (Some fault) plan = Err fault

-- the table of a document in UTF-8, as `toml` reads it
abbrev pub document_of : List ℕ → Option Members
document_of bytes = if is_utf8 bytes then parse_document bytes else None

-- the plan of a document that has this table, or has none
abbrev pub plan_of_table : ℕ → Option Members → Result Plan PlanErr
plan_of_table slots None = Err Syntax
plan_of_table slots (Some entries) = plan_or (plan_fault slots entries) (plan_in entries)

-- the plan of these bytes over so many slots; a document has at most 1048576 bytes
abbrev pub plan_of : List ℕ → ℕ → Result Plan PlanErr
plan_of bytes slots =
    if nat_le (length bytes) 1048576 then plan_of_table slots (document_of bytes) else Err (Limit (codes "plan"))
