-- What counted pins come to. Statements alone.
use Rattle.std.specs.Prelude.{◌≡◌, ℕ, ◌+◌, ◌≤◌, None, IsSome}
use Rattle.store_api.specs.Holdings.{Holdings, length_of, page_of, unused_of, page_len}
use Rattle.store_api.specs.Changes.{after_create, after_pin_again, after_unpin_once, after_destroy}
use Rattle.store_api.specs.Alike.{Alike}

-- the page is as it was but for its pins, and nothing else changed but accounts and pages
pub record IsRepinned (p : ℕ) (old new : Holdings) : Type 0 where
  pub lives : IsSome (new.pages p)
  pub key : (page_of p new).key ≡ (page_of p old).key
  pub client : (page_of p new).client ≡ (page_of p old).client
  pub blocks : (page_of p new).blocks ≡ (page_of p old).blocks
  pub left : (page_of p new).left ≡ (page_of p old).left
  pub has_slots : (page_of p new).has_slots ≡ (page_of p old).has_slots
  pub rest : record new { clients = old.clients; pages = old.pages } ≡ old

-- each pin of a pinned page is charged, and gives its charge back when it or the page ends
pub record CountsPins (p : ℕ) (h : Holdings) : Type 0 where
  pub again : IsRepinned p h (after_pin_again p h)
  pub more : (page_of p (after_pin_again p h)).pins ≡ (page_of p h).pins + 1
  pub charged : unused_of (page_of p h).client (after_pin_again p h) + page_len p h ≡ unused_of (page_of p h).client h
  pub once : IsRepinned p h (after_unpin_once p h)
  pub fewer : (page_of p (after_unpin_once p h)).pins + 1 ≡ (page_of p h).pins
  pub released : unused_of (page_of p h).client (after_unpin_once p h) ≡ unused_of (page_of p h).client h + page_len p h
  pub undone : Alike h (after_unpin_once p (after_pin_again p h))
  pub ended : Alike (after_destroy p h) (after_destroy p (after_pin_again p h))

abbrev pub PinsAreCounted : Type 0
PinsAreCounted =
    (p : ℕ) (h : Holdings) → IsSome (h.pages p) → IsSome (h.clients (page_of p h).client) → 1 ≤ (page_of p h).pins
    → page_len p h ≤ unused_of (page_of p h).client h → CountsPins p h

-- a page that is made and destroyed leaves a store as it was
abbrev pub PagesComeAndGo : Type 0
PagesComeAndGo =
    (p key t blocks : ℕ) (h : Holdings) → h.pages p ≡ None → IsSome (h.clients t) → length_of blocks h ≤ unused_of t h
    → Alike h (after_destroy p (after_create p key t blocks h))
