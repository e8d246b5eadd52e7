-- What clearing an inode's blocks in the allocation map does.
use Rattle.std.proofs.Common.{◌≡◌, ◌≢◌, ℕ, zero, suc, ◌<◌, ◌≤◌, ◌⊎◌, inl, inr, List, [], ◌∷◌, ◌++◌, Bool, true, false}
use Rattle.std.proofs.Common.{arith, refl, sym, ◌∙◌, ap, subst}
use Rattle.std.specs.Prelude.{option_to_list}
use Rattle.std.proofs.lemmas.Bool.{cases_eq}
use Rattle.crash_model.specs.Disk.{Disk, IsDisk, with_bytes}
use Rattle.crash_model.specs.Lists.{some_below, when}
use Rattle.crash_model.specs.Layout.{pointer_of, is_data}
use Rattle.crash_model.specs.Plan.{map_clear, map_clear_at, with_changes}
use Rattle.crash_model.specs.declared.plans.Change.{Change}
use Rattle.soundness_laws.specs.Tables.{Tables, tables_of, with_value, HasPointer, Sound}
use Rattle.soundness_laws.proofs.Sums.{with_value-same, with_value-other}
use Rattle.soundness_laws.proofs.Puts.{data-block}
use Rattle.soundness_laws.proofs.ByTables.{pointer-at, live-at}
use Rattle.soundness_laws.proofs.Steps.{map_clear-makes}
use Rattle.soundness_laws.proofs.Blocks.{FreesBlocks}
use Rattle.soundness_laws.proofs.FromTables.{area}
use Rattle.soundness_laws.proofs.ToTables.{pointer-bytes}
use Rattle.inode_fs.proofs.Lands.{with_changes-size}

pub with_changes-append : (d : Disk) (cs es : List Change)
    → with_changes d (cs ++ es) ≡ with_changes (with_changes d cs) es
with_changes-append d [] es = refl
with_changes-append d (c ∷ cs) es = with_changes-append (with_bytes d c.block c.offset c.new.items) cs es

-- the blocks in use after a list of changes: those that no slot below n of the inode of d names
pub record Cleared (d e after : Disk) (i n : ℕ) : Type 0 where
  pub used : ℕ → Bool
  pub disk : IsDisk after
  pub tables : tables_of after ≡ record (tables_of e) { used = used }
  pub left : (b : ℕ) → used b ≡ true → ((tables_of e).used b ≡ true)
      × ((s : ℕ) → s < n → is_data d (pointer_of d i s) ≡ true → pointer_of d i s ≢ b)
  pub kept : (b : ℕ) → (tables_of e).used b ≡ true → ((s : ℕ) → s < n → is_data d (pointer_of d i s) ≡ true
      → pointer_of d i s ≢ b) → used b ≡ true

below_suc : (k n : ℕ) → k < suc n → (k < n) ⊎ (k ≡ n)
below_suc k n h = grind arith

pub clears-make : (d e : Disk) (i n : ℕ) → IsDisk e → e.blocks ≡ d.blocks
    → Cleared d e (with_changes e (some_below n (map_clear_at d i))) i n
unfolding some_below
clears-make d e i zero disk same = record {
  used = (tables_of e).used;
  disk = disk;
  tables = refl;
  left = λ b u. (u, λ s below. absurd (omega arith));
  kept = λ b u none. u;
}
clears-make d e i (suc n) disk same =
    subst (λ (x : Disk). Cleared d e x i (suc n)) (sym (with_changes-append e (some_below n (map_clear_at d i))
    (option_to_list (map_clear_at d i n))))
    (go (is_data d (pointer_of d i n)) refl (clears-make d e i n disk same))
  where
    go : (test : Bool) → is_data d (pointer_of d i n) ≡ test
        → Cleared d e (with_changes e (some_below n (map_clear_at d i))) i n
        → Cleared d e (with_changes (with_changes e (some_below n (map_clear_at d i)))
        (option_to_list (when test (map_clear (pointer_of d i n))))) i (suc n)
    go false outside c = record {
      used = c.used;
      disk = c.disk;
      tables = c.tables;
      left = λ b u. let old = c.left b u in (
        old.0,
        λ s below inside. elim (below_suc s n below) [
          | inl less ↦ old.1 s less inside
          | inr at ↦ absurd (let both : true ≡ false = sym inside ∙ ap (λ (x : ℕ). is_data d (pointer_of d i x)) at
              ∙ outside in cc)
        ],
      );
      kept = λ b u none. c.kept b u (λ s below. none s (omega arith));
    }
    go true inside c =
        let middle = with_changes e (some_below n (map_clear_at d i)) in
        let b = pointer_of d i n in
        let high = (data-block d b inside).1 in
        let size = (with_changes-size e (some_below n (map_clear_at d i))).0 in
        let m = map_clear-makes middle b c.disk (omega arith) in
        record {
          used = with_value c.used b false;
          disk = m.disk;
          tables = m.tables ∙ ap (λ (x : Tables). record x { used = with_value x.used b false }) c.tables;
          left = λ a u. elim (cases_eq a b) [
            | inl at ↦ absurd (let both : true ≡ false = sym u ∙ ap (with_value c.used b false) at
                ∙ with_value-same c.used b false in cc)
            | inr other ↦
                let old = c.left a (sym (with_value-other c.used b false a other) ∙ u) in (
                  old.0,
                  λ s below data_area. elim (below_suc s n below) [
                    | inl less ↦ old.1 s less data_area
                    | inr at ↦ λ named. other (sym named ∙ ap (pointer_of d i) at)
                  ],
                )
          ];
          kept = λ a u none.
              let other : a ≢ b = λ at. none n (omega arith) inside (sym at) in
              with_value-other c.used b false a other ∙ c.kept a u (λ s below. none s (omega arith));
        }

-- all slots that name a block are among the first n
pub clears-free : (d e after : Disk) (i n : ℕ) → Sound (tables_of d) → (tables_of d).kind i ≢ 0 → n ≤ 4
    → (tables_of e).used ≡ (tables_of d).used → (c : Cleared d e after i n)
    → ((s b : ℕ) → HasPointer (tables_of d).kind (tables_of d).pointer i s b → s < n)
    → FreesBlocks (tables_of d).kind (tables_of d).pointer (tables_of d).used c.used i
clears-free d e after i n sound live small same c few =
    let t = tables_of d in
    let bytes = pointer-bytes d i in
    let inside : (s b : ℕ) → HasPointer t.kind t.pointer i s b → is_data d (pointer_of d i s) ≡ true = λ s b h.
    ap (is_data d) (bytes s b h).is ∙ area d b (sound.blocks.in_data_area i s b h) in
    record {
      cleared = λ b u.
          let old = c.left b u in
          (sym (ap (λ (f : ℕ → Bool). f b) same) ∙ old.0, λ s h. old.1 s (few s b h) (inside s b h) (bytes s b h).is);
      kept = λ b u none. c.kept b (ap (λ (f : ℕ → Bool). f b) same ∙ u) (λ s below data_area named.
          let in_i = live-at d i live in
          let low = (data-block d (pointer_of d i s) data_area).0 in
          none s (live, pointer-at d i s in_i.0 (omega arith) ∙ named, λ z. omega arith));
    }
