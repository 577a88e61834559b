-- Which piece is taken, and what becomes of a piece that comes back: functions of the lists of free pieces.
use Rattle.std.specs.Prelude.{ℕ, zero, suc, ◌+◌, ◌-◌, ◌*◌, ◌/◌, ◌%◌, ◌^◌, ◌==◌, Bool, true, false, if◌then◌else◌, leb, not, is_some, List, [], ◌∷◌, get_or, set, drop, length, min, Option, None, Some}
use Rattle.std.specs.List.{position_or_len}
use Rattle.index_list.specs.Listing.{Listing, nodes_on, list_with, pushed, without}
use Rattle.store_api.specs.Tokens.{LoanToken}
use Rattle.sub_alloc.specs.Pieces.{Division, PieceToken, buffer, place_of, places}

-- the least class from this one on of at least so many bytes, and so many looks at most
abbrev pub class_from : ℕ → ℕ → ℕ → ℕ
class_from zero c bytes = c
class_from (suc more) c bytes = if leb bytes (64 * 2 ^ c) then c else class_from more (suc c) bytes

-- the class of the piece that is given for so many bytes
abbrev pub class_for : Division → ℕ → ℕ
class_for d bytes = class_from d.classes 0 bytes

abbrev pub is_filled : List ℕ → Bool
is_filled [] = false
is_filled (n ∷ nodes) = true

-- the least class from this one on of which a piece is free, or how many classes there are
abbrev pub first_from : ℕ → Listing → ℕ
first_from c t = c + position_or_len is_filled (drop c t.lists)

-- the piece of a class that became free last
abbrev pub last_of : List ℕ → ℕ
last_of nodes = get_or nodes (length nodes - 1) 0

abbrev pub newest : ℕ → Listing → ℕ
newest c t = last_of (nodes_on c t)

-- a piece is halved until it is `more` classes shorter, of class c; the upper halves become free, the longest first
abbrev pub halved : ℕ → ℕ → ℕ → Listing → Listing
halved zero c n t = t
halved (suc more) c n t = halved more c n (pushed (c + more) (n + 2 ^ (c + more)) t)

-- a piece of class c at this place, cut out of one of class e there
abbrev pub cut_out : ℕ → ℕ → ℕ → Listing → Listing
cut_out c e n t = halved (e - c) c n t

-- the free piece of class e that became free last is taken, as one of class c
abbrev pub taken_free : ℕ → ℕ → Division → Division
taken_free c e d = record d {
  free = cut_out c e (newest e d.free) (without (newest e d.free) d.free);
  live = set d.live (newest e d.free) (suc c);
}

-- this buffer is opened, and its first piece is taken, of class c
abbrev pub taken_new : ℕ → ℕ → LoanToken → Division → Division
taken_new c u loan d = record d {
  buffers = set d.buffers u (Some loan);
  free = cut_out c (d.classes - 1) (u * places d) d.free;
  live = set d.live (u * places d) (suc c);
}

abbrev pub is_closed : Option LoanToken → Bool
is_closed slot = not (is_some slot)

-- the least number of a closed buffer, or how many buffers there are
abbrev pub first_closed : Division → ℕ
first_closed d = position_or_len is_closed d.buffers

-- the other half of what a piece was halved from
abbrev pub other_half : ℕ → ℕ → ℕ
other_half c n = if n / 2 ^ c % 2 == 0 then n + 2 ^ c else n - 2 ^ c

-- where that began
abbrev pub begin_of : ℕ → ℕ → ℕ
begin_of c n = min n (other_half c n)

abbrev pub is_class : ℕ → Option ℕ → Bool
is_class c None = false
is_class c (Some e) = e == c

-- a piece with the halves that it was joined with
pub record Joined : Type 0 where
  pub class : ℕ
  pub place : ℕ
  pub free : Listing

-- a piece and the other half are joined while that is free and whole, so often at most
abbrev pub joined : ℕ → ℕ → ℕ → Listing → Joined
joined zero c n t = record { class = c; place = n; free = t }
joined (suc more) c n t =
    if is_class c (list_with (other_half c n) t) then joined more (suc c) (begin_of c n) (without (other_half c n) t)
    else record { class = c; place = n; free = t }

-- a piece came back, and this is what it was joined to: a whole buffer, which is closed, or a free piece
abbrev pub came_back : ℕ → Joined → Division → Division
came_back n j d =
    if suc j.class == d.classes then record d { buffers = set d.buffers (j.place / places d) None; free = j.free; live = set d.live n 0 }
    else record d { free = pushed j.class j.place j.free; live = set d.live n 0 }

-- the piece at a place, of the class that is marked there, as it is joined
abbrev pub join_at : ℕ → Division → Joined
join_at n d = joined (d.classes - 1 - (get_or d.live n 0 - 1)) (get_or d.live n 0 - 1) n d.free

-- a live piece is put back
abbrev pub returned : PieceToken → Division → Division
returned p d = came_back (place_of d p) (join_at (place_of d p) d) d

-- the buffer that is closed then, if one is
abbrev pub freed_with : Joined → Division → Option LoanToken
freed_with j d = if suc j.class == d.classes then buffer (j.place / places d) d else None

abbrev pub freed_by : PieceToken → Division → Option LoanToken
freed_by p d = freed_with (join_at (place_of d p) d) d
