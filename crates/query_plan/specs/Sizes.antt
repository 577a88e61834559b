-- How much memory and how many slots a query asks for.
use Rattle.std.specs.Prelude.{ℕ, ◌+◌, ◌*◌, Bool, not, ◌&&◌, ◌==◌, nat_le, length, is_some, if◌then◌else◌}
use Rattle.query_plan.specs.declared.plan.Query.{Query}

-- the bytes of a page
abbrev pub page_len : Query → ℕ → ℕ
page_len query block_len = query.page_blocks * block_len

-- the query joins; the query groups
abbrev pub joins : Query → Bool
joins query = is_some query.right

abbrev pub groups : Query → Bool
groups query = not (length query.group == 0)

-- the operators that work on a query: one that joins and groups has a second one
abbrev pub operators : Query → ℕ
operators query = if joins query && groups query then 2 else 1

-- the least reservation in bytes: twenty pages for each operator
abbrev pub least_of : Query → ℕ → ℕ
least_of query block_len = operators query * 20 * page_len query block_len

-- the sessions of a query: one, or one more than its fragments where these are several
abbrev pub sessions_of : Query → ℕ
sessions_of query = if nat_le query.fragments 1 then 1 else query.fragments + 1

-- the slots that its sessions set aside together
abbrev pub slots_of : Query → ℕ
slots_of query = query.quota * sessions_of query
