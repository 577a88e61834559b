-- What the calls of a store change, one word a call. What a word doesn't name stays as it is.
use Rattle.std.specs.Prelude.{ℕ, ◌+◌, ◌-◌, ◌*◌, ◌==◌, List, [], false, ◌||◌, if◌then◌else◌, Option, Some, None, is_some, option_map}
use Rattle.store_api.specs.Holdings.{Account, LivePage, LiveLoan, Above, Nothing, Room, Shared, Holdings, put, length_of, account_of, page_of, loan_of, unused_of, page_len, loan_len}

-- a client has this account from now on
abbrev pub with_account : ℕ → Account → Holdings → Holdings
with_account t account h = record h { clients = put t (Some account) h.clients }

abbrev pub with_page : ℕ → Option LivePage → Holdings → Holdings
with_page p page h = record h { pages = put p page h.pages }

abbrev pub with_loan : ℕ → Option LiveLoan → Holdings → Holdings
with_loan f loan h = record h { loans = put f loan h.loans }

-- a client uses so many bytes more, or fewer
abbrev pub charged : ℕ → ℕ → Holdings → Holdings
charged t bytes h = with_account t (record (account_of t h) { unused = unused_of t h - bytes }) h

abbrev pub released : ℕ → ℕ → Holdings → Holdings
released t bytes h = with_account t (record (account_of t h) { unused = unused_of t h + bytes }) h

-- a client comes, with no reservation
abbrev pub after_add_client : ℕ → ℕ → Holdings → Holdings
after_add_client t limit h = record h {
  clients = put t (Some (record { limit = limit; reservation = 0; unused = 0 })) h.clients;
  live_clients = h.live_clients + 1;
}

-- a client goes, and its reservation is the query's room
abbrev pub after_end_client : ℕ → Holdings → Holdings
after_end_client t h = record h {
  clients = put t None h.clients;
  live_clients = h.live_clients - 1;
  room = h.room + (account_of t h).reservation;
}

-- what the query must grow by: what its room doesn't cover
abbrev pub query_growth : ℕ → Holdings → ℕ
query_growth bytes h = bytes - h.room

-- what is above the query grew by so much, or fell
abbrev pub grown_above : ℕ → Above → Above
grown_above bytes Nothing = Nothing
grown_above bytes (Room room) = Room (room - bytes)
grown_above bytes Shared = Shared

abbrev pub fallen_above : ℕ → Above → Above
fallen_above bytes Nothing = Nothing
fallen_above bytes (Room room) = Room (room + bytes)
fallen_above bytes Shared = Shared

-- an account with so much more reservation, all of it unused, or so much less
abbrev pub raised : ℕ → Account → Account
raised bytes account = record account { reservation = account.reservation + bytes; unused = account.unused + bytes }

abbrev pub lowered : ℕ → Account → Account
lowered bytes account = record account { reservation = account.reservation - bytes; unused = account.unused - bytes }

-- a client's reservation grows, and the query's by what its room doesn't cover
abbrev pub after_reserve : ℕ → ℕ → Holdings → Holdings
after_reserve t bytes h = record h {
  clients = put t (Some (raised bytes (account_of t h))) h.clients;
  reservation = h.reservation + query_growth bytes h;
  room = h.room - bytes;
  above = grown_above (query_growth bytes h) h.above;
}

-- how many bytes a client lacks to have so many unused
abbrev pub shortfall : ℕ → ℕ → Holdings → ℕ
shortfall t bytes h = bytes - unused_of t h

-- a client's reservation falls, and the query's with it
abbrev pub after_give_back : ℕ → ℕ → Holdings → Holdings
after_give_back t bytes h = record h {
  clients = put t (Some (lowered bytes (account_of t h))) h.clients;
  reservation = h.reservation - bytes;
  above = fallen_above bytes h.above;
}

-- reservation goes from one client to another; to itself nothing goes
abbrev pub after_move_reservation : ℕ → ℕ → ℕ → Holdings → Holdings
after_move_reservation from to bytes h =
    if from == to then h
    else with_account to (raised bytes (account_of to h)) (with_account from (lowered bytes (account_of from h)) h)

-- a page comes, pinned
abbrev pub after_create : ℕ → ℕ → ℕ → ℕ → Holdings → Holdings
after_create p key t blocks h =
    with_page p (Some (record { key = key; client = t; blocks = blocks; pins = 1; left = []; has_slots = false }))
    (charged t (length_of blocks h) h)

-- a page that rests is pinned, and what was left in it is with its client
abbrev pub after_pin : ℕ → Holdings → Holdings
after_pin p h =
    with_page p (Some (record (page_of p h) { pins = (page_of p h).pins + 1; left = [] }))
    (charged (page_of p h).client (page_len p h) h)

-- a pinned page is pinned once more
abbrev pub after_pin_again : ℕ → Holdings → Holdings
after_pin_again p h =
    with_page p (Some (record (page_of p h) { pins = (page_of p h).pins + 1 }))
    (charged (page_of p h).client (page_len p h) h)

-- one pin of several ends
abbrev pub after_unpin_once : ℕ → Holdings → Holdings
after_unpin_once p h =
    with_page p (Some (record (page_of p h) { pins = (page_of p h).pins - 1 }))
    (released (page_of p h).client (page_len p h) h)

-- the free slots when a page takes its own: it takes them once
abbrev pub slots_taken : LivePage → Option ℕ → Option ℕ
slots_taken page free = if page.has_slots then free else option_map (λ n. n - page.blocks) free

-- the free slots when a page ends
abbrev pub slots_given : LivePage → Option ℕ → Option ℕ
slots_given page free = if page.has_slots then option_map (λ n. n + page.blocks) free else free

-- a page rests with these bytes; where there is a quota it has slots from now on
abbrev pub after_unpin : ℕ → List ℕ → Holdings → Holdings
after_unpin p bytes h = record (released (page_of p h).client (page_len p h) h) {
  pages = put p (Some (record (page_of p h) { pins = (page_of p h).pins - 1; left = bytes; has_slots = (page_of p h).has_slots || is_some h.free_slots })) h.pages;
  free_slots = slots_taken (page_of p h) h.free_slots;
}

-- a pinned page ends, and a loan has its charge
abbrev pub after_extract : ℕ → ℕ → Holdings → Holdings
after_extract p f h = record h {
  pages = put p None h.pages;
  loans = put f (Some (record { client = (page_of p h).client; blocks = (page_of p h).blocks })) h.loans;
  free_slots = slots_given (page_of p h) h.free_slots;
}

-- a page ends, and each of its pins gives its charge back
abbrev pub after_destroy : ℕ → Holdings → Holdings
after_destroy p h = record (released (page_of p h).client ((page_of p h).pins * page_len p h) h) {
  pages = put p None h.pages;
  free_slots = slots_given (page_of p h) h.free_slots;
}

-- a loan comes
abbrev pub after_alloc : ℕ → ℕ → ℕ → Holdings → Holdings
after_alloc f t blocks h =
    with_loan f (Some (record { client = t; blocks = blocks })) (charged t (length_of blocks h) h)

-- a loan ends
abbrev pub after_free : ℕ → Holdings → Holdings
after_free f h = with_loan f None (released (loan_of f h).client (loan_len f h) h)

-- a loan is charged to another client; to its own nothing changes
abbrev pub after_move_buffer : ℕ → ℕ → Holdings → Holdings
after_move_buffer f to h =
    if (loan_of f h).client == to then h
    else with_loan f (Some (record (loan_of f h) { client = to }))
    (charged to (loan_len f h) (released (loan_of f h).client (loan_len f h) h))
