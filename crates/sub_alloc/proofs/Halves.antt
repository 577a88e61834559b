-- What the rules leave of the table: how many nodes and lists there are.
use Rattle.std.proofs.Common.{◌≡◌, ℕ, zero, suc, ◌+◌, ◌*◌, ◌/◌, ◌%◌, ◌<◌, refl, ap, ◌∙◌, inl, inr}
use Rattle.std.proofs.lemmas.Bool.{cases_Bool}
use Rattle.std.proofs.lemmas.Nat.{div-mul-add, mod-mul-add}
use Rattle.index_list.specs.Listing.{Listing, list_with, without}
use Rattle.sub_alloc.specs.Rules.{begin_of, halved, is_class, joined, other_half}

pub halved-nodes : (more c n : ℕ) (t : Listing) → (halved more c n t).nodes ≡ t.nodes
halved-nodes zero c n t = refl
halved-nodes (suc more) c n t = halved-nodes more c n _

pub joined-nodes : (more c n : ℕ) (t : Listing) → (joined more c n t).free.nodes ≡ t.nodes
joined-nodes zero c n t = refl
joined-nodes (suc more) c n t =
    elim (cases_Bool (is_class c (list_with (other_half c n) t))) [
      | inl e ↦ rw e (joined-nodes more (suc c) (begin_of c n) (without (other_half c n) t))
      | inr e ↦ rw e refl
    ]

-- a place of a buffer of so many, and where in the buffer it is
pub buffer_is : (n u i buf : ℕ) → 0 < buf → i < buf → n ≡ u * buf + i → (n / buf ≡ u) × (n % buf ≡ i)
buffer_is n u i buf some l e = (ap (λ (k : ℕ). k / buf) e ∙ div-mul-add u buf i l, ap (λ (k : ℕ). k % buf) e ∙ mod-mul-add u buf i l)
