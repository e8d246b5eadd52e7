-- What is gained and lost, said of views with the same members.
use Rattle.std.proofs.Common.{ℕ, ◌⊎◌, ◌↔◌, inl, inr}
use Rattle.crash_model.specs.View.{View}
use Rattle.crash_model.specs.Meaning.{Becomes, with_blocks_of, with_all_of}
use Rattle.soundness_laws.specs.Tables.{SameView}

pub same-self : (v : View) → SameView v v
same-self v = record {
  names = λ dir name i. (λ h. h, λ h. h);
  inodes = λ i kind links. (λ h. h, λ h. h);
  pointers = λ i s b. (λ h. h, λ h. h);
  used_blocks = λ b. (λ h. h, λ h. h);
}

-- the same blocks of an inode
pub same-blocks_of : (base v w : View) (i : ℕ) → SameView v w
    → SameView (with_blocks_of base v i) (with_blocks_of base w i)
same-blocks_of base v w i same = record {
  names = λ dir name j. (λ h. h, λ h. h);
  inodes = λ j kind links. (λ h. h, λ h. h);
  pointers = λ j s b. (λ h. h, λ h. h);
  used_blocks = λ b. (λ h. (h.0, (same.pointers i h.0 b).0 h.1), λ h. (h.0, (same.pointers i h.0 b).1 h.1));
}

-- the same inode with all that it has
pub same-all_of : (base v w : View) (i : ℕ) → SameView v w → SameView (with_all_of base v i) (with_all_of base w i)
same-all_of base v w i same = record {
  names = λ dir name j. (λ h. h, λ h. h);
  inodes = λ j kind links. (λ h. h, λ h. h);
  pointers = λ j s b. (λ h. h, λ h. h);
  used_blocks = λ b. (λ h. (h.0, (same.pointers i h.0 b).0 h.1), λ h. (h.0, (same.pointers i h.0 b).1 h.1));
}

one : {A A' B B' L L' G : Type 0} → (A ↔ A') → (B ↔ B') → (L ↔ L') → (B' ↔ ((A' × (¬ L')) ⊎ G))
    → (B ↔ ((A × (¬ L)) ⊎ G))
one old new lost is = (
  λ b. elim (is.0 (new.0 b)) [ inl h ↦ inl (old.1 h.0, λ l. h.1 (lost.0 l)) | inr g ↦ inr g ],
  λ h. elim h [ inl w ↦ new.1 (is.1 (inl (old.0 w.0, λ l. w.1 (lost.1 l)))) | inr g ↦ new.1 (is.1 (inr g)) ],
)

pub becomes-same : (old new lost old' new' lost' gained : View) → SameView old old' → SameView new new'
    → SameView lost lost' → Becomes old' new' gained lost' → Becomes old new gained lost
becomes-same old new lost old' new' lost' gained o n l is = record {
  names = λ dir name i. one (o.names dir name i) (n.names dir name i) (l.names dir name i) (is.names dir name i);
  inodes = λ i kind links. one (o.inodes i kind links) (n.inodes i kind links) (l.inodes i kind links)
      (is.inodes i kind links);
  pointers = λ i s b. one (o.pointers i s b) (n.pointers i s b) (l.pointers i s b) (is.pointers i s b);
  used_blocks = λ b. one (o.used_blocks b) (n.used_blocks b) (l.used_blocks b) (is.used_blocks b);
}
