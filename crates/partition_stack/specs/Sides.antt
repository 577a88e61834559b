-- Two lists of streams of one client, which has no other pages: the two sides of an operator. Lengths are in bytes.
use Rattle.std.specs.Prelude.{◌≡◌, ◌≢◌, ℕ, ◌+◌, List, slice_get, Some, IsSome}
use Rattle.store_api.specs.Holdings.{Holdings, LivePage, account_of, unused_of}
use Rattle.store_api.specs.Signs.{Signs}
use Rattle.tuple_stream.specs.Streamed.{Streamed}
use Rattle.tuple_stream.specs.Families.{AreDisjoint, AreShaped, IsOutside, family, held_in}

-- the streams of both are the client's and have all of its pages, none in two of them; and what is unused, what their pinned
-- pages take, and so much that it has lent besides, are together its reservation
pub record OwnBoth (t lent : ℕ) (left right : List Streamed) (h : Holdings) (signs : Signs) : Type 0 where
  pub lives : IsSome (h.clients t)
  pub left_shaped : AreShaped t (family left h signs)
  pub right_shaped : AreShaped t (family right h signs)
  pub apart : (i j : ℕ) (a b : Streamed) → slice_get left i ≡ Some a → slice_get right j ≡ Some b → AreDisjoint a b
  pub only : (q : ℕ) (page : LivePage) → h.pages q ≡ Some page → IsOutside q left → IsOutside q right → page.client ≢ t
  pub even : unused_of t h + held_in (family left h signs) + held_in (family right h signs) + lent ≡ (account_of t h).reservation
