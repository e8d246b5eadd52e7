-- Logs with patches more, some after others.
use Rattle.std.proofs.Common.{◌≡◌, ℕ, zero, suc, ◌+◌, ◌<◌, ◌≤◌, List, [], ◌∷◌, ◌++◌, length, map, take, drop, get_or}
use Rattle.std.proofs.Common.{Bool, true, false, cond, not, ◌||◌, arith, refl, sym, ◌∙◌, ap, subst, append_assoc}
use Rattle.std.proofs.Common.{append-nil, length-append}
use Rattle.std.specs.List.{filter, list_any}
use Rattle.std.proofs.lemmas.List.{take_more, length-map, length-take-le, map_push, take-append-drop, take_all}
use Rattle.crash_model.specs.Disk.{Disk, block_of}
use Rattle.crash_model.specs.declared.rules.Part.TheVariants.{Copy, Commit, Done}
use Rattle.crash_model.specs.Trace.{Emitted, Origin, part_of, copies, in_place_patch}
use Rattle.crash_model.specs.declared.plans.Change.{Change}
use Rattle.crash_model.specs.declared.modules.Module.{Module}
use Rattle.order_modules.specs.Log.{Log, Adds}
use Rattle.order_modules.specs.Transactions.{is_ahead, changes_ahead, changes_in_place, file_data, transaction_of}

pub adds-none : (log : Log) → Adds log log []
adds-none log = record {
  base = refl;
  kind = refl;
  rules = refl;
  whole = refl;
  links = refl;
  emitted = sym (append-nil log.emitted);
}

pub adds-then : (a b c : Log) (xs ys : List Emitted) → Adds a b xs → Adds b c ys → Adds a c (xs ++ ys)
adds-then a b c xs ys one two = record {
  base = two.base ∙ one.base;
  kind = two.kind ∙ one.kind;
  rules = two.rules ∙ one.rules;
  whole = two.whole ∙ one.whole;
  links = two.links ∙ one.links;
  emitted = two.emitted ∙ ap (λ (es : List Emitted). es ++ ys) one.emitted ∙ append_assoc a.emitted xs ys;
}

pub adds-same : (a b : Log) (xs ys : List Emitted) → xs ≡ ys → Adds a b xs → Adds a b ys
adds-same a b xs ys same adds = subst (λ (es : List Emitted). Adds a b es) same adds

pub adds-long : (a b : Log) (xs : List Emitted) → Adds a b xs → length b.emitted ≡ length a.emitted + length xs
adds-long a b xs adds = ap (λ (es : List Emitted). length es) adds.emitted ∙ length-append a.emitted xs

-- ---- the chosen ones of a list, one more

filter-append : {X : Type 0} (p : X → Bool) (xs ys : List X) → filter p (xs ++ ys) ≡ filter p xs ++ filter p ys
filter-append p [] ys = refl
filter-append p (x ∷ xs) ys = go (p x) (filter-append p xs ys)
  where
    go : (t : Bool) → filter p (xs ++ ys) ≡ filter p xs ++ filter p ys
        → cond t (x ∷ filter p (xs ++ ys)) (filter p (xs ++ ys)) ≡ cond t (x ∷ filter p xs) (filter p xs) ++ filter p ys
    go true h = ap (λ zs. x ∷ zs) h
    go false h = h

module _ (p : Change → Bool) (f : Change → Emitted) (xs : List Change) (i : ℕ) (x : Change) (inside : i < length xs)
    (read : x ≡ get_or xs i x) where
  next_is : take (i + 1) xs ≡ take i xs ++ x ∷ []
  next_is = take_more xs i x inside ∙ ap (λ (y : Change). take i xs ++ y ∷ []) (sym read)

  pub chosen_one : p x ≡ true → map f (filter p (take (i + 1) xs)) ≡ map f (filter p (take i xs)) ++ f x ∷ []
  chosen_one t =
      let one : filter p (x ∷ []) ≡ x ∷ [] = rw t refl in
      ap (λ (ys : List Change). map f (filter p ys)) next_is
      ∙ ap (λ (ys : List Change). map f ys) (filter-append p (take i xs) (x ∷ [])
      ∙ ap (λ (ys : List Change). filter p (take i xs) ++ ys) one)
      ∙ map_push f (filter p (take i xs)) x

  pub chosen_not : p x ≡ false → map f (filter p (take (i + 1) xs)) ≡ map f (filter p (take i xs))
  chosen_not t =
      let none : filter p (x ∷ []) ≡ [] = rw t refl in
      ap (λ (ys : List Change). map f (filter p ys)) next_is
      ∙ ap (λ (ys : List Change). map f ys) (filter-append p (take i xs) (x ∷ [])
      ∙ ap (λ (ys : List Change). filter p (take i xs) ++ ys) none ∙ append-nil (filter p (take i xs)))

  -- there is room for one more of those chosen
  pub chosen_room : p x ≡ true → length (filter p (take i xs)) < length (filter p xs)
  chosen_room t =
      let one : filter p (x ∷ []) ≡ x ∷ [] = rw t refl in
      let front : filter p (take (i + 1) xs) ≡ filter p (take i xs) ++ x ∷ [] =
      ap (λ (ys : List Change). filter p ys) next_is ∙ filter-append p (take i xs) (x ∷ [])
      ∙ ap (λ (ys : List Change). filter p (take i xs) ++ ys) one in
      let all : filter p xs ≡ filter p (take (i + 1) xs) ++ filter p (drop (i + 1) xs) =
      ap (λ (ys : List Change). filter p ys) (sym (take-append-drop (i + 1) xs))
      ∙ filter-append p (take (i + 1) xs) (drop (i + 1) xs) in
      let a : length (filter p (take (i + 1) xs)) ≡ length (filter p (take i xs)) + 1 =
      ap (λ (ys : List Change). length ys) front ∙ length-append (filter p (take i xs)) (x ∷ []) in
      let b : length (filter p xs) ≡ length (filter p (take (i + 1) xs)) + length (filter p (drop (i + 1) xs)) =
      ap (λ (ys : List Change). length ys) all ∙ length-append (filter p (take (i + 1) xs))
      (filter p (drop (i + 1) xs)) in
      omega arith

pub filter_all : {X : Type 0} (p : X → Bool) (xs : List X) → ((x : X) → p x ≡ true) → filter p xs ≡ xs
filter_all p [] all = refl
filter_all p (x ∷ xs) all = rw (all x) (ap (λ ys. x ∷ ys) (filter_all p xs all))

pub filter_none : {X : Type 0} (p : X → Bool) (xs : List X) → ((x : X) → p x ≡ false) → filter p xs ≡ []
filter_none p [] none = refl
filter_none p (x ∷ xs) none = rw (none x) (filter_none p xs none)

-- those that pass and those that don't
pub filter_both : {X : Type 0} (p : X → Bool) (xs : List X)
    → length (filter p xs) + length (filter (λ x. not (p x)) xs) ≡ length xs
filter_both p [] = refl
filter_both p (x ∷ xs) = go (p x) (filter_both p xs)
  where
    go : (t : Bool) → length (filter p xs) + length (filter (λ y. not (p y)) xs) ≡ length xs
        → length (cond t (x ∷ filter p xs) (filter p xs)) + length
        (cond (not t) (x ∷ filter (λ y. not (p y)) xs) (filter (λ y. not (p y)) xs)) ≡ suc (length xs)
    go true h = omega arith
    go false h = omega arith

-- ---- copies

pub copies-push : (after : Disk) (op_number j : ℕ) (origin : Origin) (bs : List ℕ) (b : ℕ)
    → copies after op_number j origin (bs ++ b ∷ []) ≡ copies after op_number j origin bs
    ++ part_of op_number origin Copy
    (j + length bs) 0 (block_of after b) ∷ []
copies-push after op_number j origin [] b = ap (λ (k : ℕ). part_of op_number origin Copy k 0 (block_of after b) ∷ [])
    (omega arith)
copies-push after op_number j origin (x ∷ bs) b =
    ap (λ (es : List Emitted). part_of op_number origin Copy j 0 (block_of after x) ∷ es)
    (copies-push after op_number (j + 1) origin bs b
    ∙ ap (λ (k : ℕ). copies after op_number (j + 1) origin bs ++ part_of op_number origin Copy k 0 (block_of after b)
    ∷ [])
    (omega arith))

pub length-copies : (after : Disk) (op_number j : ℕ) (origin : Origin) (bs : List ℕ)
    → length (copies after op_number j origin bs) ≡ length bs
length-copies after op_number j origin [] = refl
length-copies after op_number j origin (b ∷ bs) = ap suc (length-copies after op_number (j + 1) origin bs)

-- ---- in the loops

-- the test of the code is that of the definition
pub ahead_read : (kind now read : Module) (x : Change) (test : Bool) → read ≡ now → now ≡ kind
    → test ≡ is_ahead read x → is_ahead kind x ≡ test
ahead_read kind now read x test one two is = sym (is ∙ ap (λ (k : Module). is_ahead k x) (one ∙ two))

module _ (a b : Log) (p : Change → Bool) (f : Change → Emitted) (xs : List Change) (i : ℕ) (x : Change)
    (inside : i < length xs) (read : x ≡ get_or xs i x)
    (so_far : Adds a b (map f (filter p (take i xs)))) where
  pub chosen_space : p x ≡ true → length a.emitted + length (filter p xs) ≤ 124 → length b.emitted < 124
  chosen_space t room =
      let long : length b.emitted ≡ length a.emitted + length (map f (filter p (take i xs))) =
      adds-long a b (map f (filter p (take i xs))) so_far in
      let same : length (map f (filter p (take i xs))) ≡ length (filter p (take i xs)) =
      length-map (filter p (take i xs)) f in
      let less : length (filter p (take i xs)) < length (filter p xs) = chosen_room p f xs i x inside read t in
      omega arith

  pub chosen_next : (d : Log) → p x ≡ true → Adds b d (f x ∷ []) → Adds a d (map f (filter p (take (i + 1) xs)))
  chosen_next d t adds = adds-same a d (map f (filter p (take i xs)) ++ f x ∷ []) (map f (filter p (take (i + 1) xs)))
      (sym (chosen_one p f xs i x inside read t)) (adds-then a b d (map f (filter p (take i xs))) (f x ∷ []) so_far
      adds)

  pub chosen_skip : p x ≡ false → Adds a b (map f (filter p (take (i + 1) xs)))
  chosen_skip t = adds-same a b (map f (filter p (take i xs))) (map f (filter p (take (i + 1) xs)))
      (sym (chosen_not p f xs i x inside read t)) so_far

pub chosen_end : (a b : Log) (p : Change → Bool) (f : Change → Emitted) (xs : List Change) (i : ℕ) → length xs ≤ i
    → Adds a b (map f (filter p (take i xs))) → Adds a b (map f (filter p xs))
chosen_end a b p f xs i past so_far = adds-same a b (map f (filter p (take i xs))) (map f (filter p xs))
    (ap (λ (ys : List Change). map f (filter p ys)) (take_all i xs past)) so_far

module _ (a b : Log) (after : Disk) (op_number j : ℕ) (origin : Origin) (bs : List ℕ) (i : ℕ)
    (so_far : Adds a b (copies after op_number j origin (take i bs))) where
  pub copies_space : i < length bs → length a.emitted + length bs ≤ 124 → length b.emitted < 124
  copies_space inside room =
      let long : length b.emitted ≡ length a.emitted + length (copies after op_number j origin (take i bs)) =
      adds-long a b (copies after op_number j origin (take i bs)) so_far in
      let same : length (copies after op_number j origin (take i bs)) ≡ length (take i bs) =
      length-copies after op_number j origin (take i bs) in
      let front : length (take i bs) ≡ i = length-take-le i bs (omega arith) in
      omega arith

  pub copies_next : (d : Log) (block t t' : ℕ) (bytes : List ℕ) → i < length bs → block ≡ j + i → t' ≡ t
      → t ≡ get_or bs i 0 → bytes ≡ block_of after t' → Adds b d (part_of op_number origin Copy block 0 bytes ∷ [])
      → Adds a d (copies after op_number j origin (take (i + 1) bs))
  copies_next d block t t' bytes inside at cast read copied adds =
      let front : length (take i bs) ≡ i = length-take-le i bs (omega arith) in
      let more : take (i + 1) bs ≡ take i bs ++ get_or bs i 0 ∷ [] = take_more bs i 0 inside in
      let is : copies after op_number j origin (take (i + 1) bs) ≡ copies after op_number j origin (take i bs)
      ++ part_of op_number origin Copy (j + length (take i bs)) 0 (block_of after (get_or bs i 0)) ∷ [] =
      ap (λ (xs : List ℕ). copies after op_number j origin xs) more
      ∙ copies-push after op_number j origin (take i bs) (get_or bs i 0) in
      let one : part_of op_number origin Copy block 0 bytes ≡ part_of op_number origin Copy (j + length (take i bs)) 0
      (block_of after (get_or bs i 0)) =
      ap (λ (k : ℕ). part_of op_number origin Copy k 0 bytes) (at ∙ ap (λ (k : ℕ). j + k) (sym front))
      ∙ ap (λ (xs : List ℕ). part_of op_number origin Copy (j + length (take i bs)) 0 xs)
      (copied ∙ ap (λ (k : ℕ). block_of after k) (cast ∙ read)) in
      adds-same a d (copies after op_number j origin (take i bs) ++ part_of op_number origin Copy block 0 bytes ∷ [])
      (copies after op_number j origin (take (i + 1) bs))
      (ap (λ (e : Emitted). copies after op_number j origin (take i bs) ++ e ∷ []) one ∙ sym is)
      (adds-then a b d (copies after op_number j origin (take i bs))
      (part_of op_number origin Copy block 0 bytes ∷ []) so_far
      adds)

-- ---- what is touched

pub any_chosen : (p q : Change → Bool) (xs : List Change) (i : ℕ) (x : Change) → i < length xs → x ≡ get_or xs i x
    → p x ≡ true → q x ≡ true → list_any q (filter p xs) ≡ true
any_chosen p q [] i x inside read one two = absurd (omega arith)
any_chosen p q (y ∷ ys) zero x inside read one two =
    let a : p y ≡ true = subst (λ (z : Change). p z ≡ true) read one in
    let b : q y ≡ true = subst (λ (z : Change). q z ≡ true) read two in
    rw (a, b) refl
any_chosen p q (y ∷ ys) (suc i) x inside read one two = go (p y) (any_chosen p q ys i x (omega arith) read one two)
  where
    go : (t : Bool) → list_any q (filter p ys) ≡ true → list_any q (cond t (y ∷ filter p ys) (filter p ys)) ≡ true
    go true h = or_true (q y) (list_any q (filter p ys)) h
      where
        or_true : (a b : Bool) → b ≡ true → (a || b) ≡ true
        or_true true b h = refl
        or_true false b h = h
    go false h = h

-- ---- a whole transaction

pub transaction_room : (kind : Module) (changes : List Change)
    → length (changes_ahead kind changes) + length (changes_in_place kind changes) ≡ length changes
transaction_room kind changes = filter_both (is_ahead kind) changes

pub transaction_adds : (kind : Module) (after : Disk) (op_number j : ℕ) (origin : Origin) (targets : List ℕ)
    (changes : List Change) (a b c d e f : Log) → kind ≡ a.kind
    → Adds a b (map (file_data op_number origin) (changes_ahead a.kind changes))
    → Adds b c (copies after op_number (j + 1) origin targets)
    → Adds c d (part_of op_number origin Commit j 0 (0xC7 ∷ op_number ∷ length targets ∷ targets) ∷ [])
    → Adds d e (map (in_place_patch op_number origin) (changes_in_place d.kind changes))
    → Adds e f (part_of op_number origin Done j 0 (0xC8 ∷ []) ∷ [])
    → Adds a f (transaction_of a.kind after op_number j origin targets changes)
transaction_adds kind after op_number j origin targets changes a b c d e f same first second third fourth fifth =
    let xs : List Emitted = map (file_data op_number origin) (changes_ahead a.kind changes) in
    let ys : List Emitted = copies after op_number (j + 1) origin targets in
    let z : Emitted = part_of op_number origin Commit j 0 (0xC7 ∷ op_number ∷ length targets ∷ targets) in
    let ws : List Emitted = map (in_place_patch op_number origin) (changes_in_place a.kind changes) in
    let v : Emitted = part_of op_number origin Done j 0 (0xC8 ∷ []) in
    let same_kind : d.kind ≡ a.kind = third.kind ∙ second.kind ∙ first.kind in
    let fourth' : Adds d e ws = subst (λ (k : Module). Adds d e
    (map (in_place_patch op_number origin) (changes_in_place k changes))) same_kind fourth in
    adds-then a b f xs (ys ++ (z ∷ (ws ++ v ∷ []))) first
    (adds-then b c f ys (z ∷ (ws ++ v ∷ [])) second
    (adds-then c d f (z ∷ []) (ws ++ v ∷ []) third
    (adds-then d e f ws (v ∷ []) fourth' fifth)))

adds-map : (a b : Log) (f : Change → Emitted) (xs : List Change) → Adds a b (map f xs)
    → length b.emitted ≡ length a.emitted + length xs
adds-map a b f xs adds = adds-long a b (map f xs) adds ∙ ap (λ (n : ℕ). length a.emitted + n) (length-map xs f)

adds-copies : (a b : Log) (after : Disk) (op_number j : ℕ) (origin : Origin) (bs : List ℕ)
    → Adds a b (copies after op_number j origin bs) → length b.emitted ≡ length a.emitted + length bs
adds-copies a b after op_number j origin bs adds = adds-long a b (copies after op_number j origin bs) adds
    ∙ ap (λ (n : ℕ). length a.emitted + n) (length-copies after op_number j origin bs)

-- ---- room for what a transaction adds next

module _ (old first : Log) (changes : List Change) (targets : List ℕ) (f : Change → Emitted)
    (room : length old.emitted + (length changes + length targets + 2) ≤ 124)
    (ahead : Adds old first (map f (changes_ahead old.kind changes))) where
  -- after the file data there is room for the copies
  pub room_for_copies : length first.emitted + length targets ≤ 124
  room_for_copies = omega (
    arith,
    room,
    transaction_room old.kind changes,
    adds-map old first f
        (changes_ahead old.kind changes) ahead,
  )

  module _ (second : Log) (after : Disk) (op_number j : ℕ) (origin : Origin)
      (copied : Adds first second (copies after op_number j origin targets)) where
    -- after the copies there is room for the commit, the changes in place and the mark that all is done
    left : length second.emitted + (length (changes_in_place old.kind changes) + 2) ≤ 124
    left = omega (
      arith,
      room,
      transaction_room old.kind changes,
      adds-map old first f
          (changes_ahead old.kind changes) ahead,
      adds-copies first second after op_number j origin targets copied,
    )

    pub room_for_commit : length second.emitted < 124
    room_for_commit = omega (arith, left)

    module _ (third : Log) (commit : Emitted) (committed : Adds second third (commit ∷ [])) where
      -- after the commit for all but it
      left_then : length third.emitted + (length (changes_in_place third.kind changes) + 1) ≤ 124
      left_then =
          let same : length (changes_in_place third.kind changes) ≡ length (changes_in_place old.kind changes) =
          ap (λ (k : Module). length (changes_in_place k changes)) (committed.kind ∙ copied.kind ∙ ahead.kind) in
          omega (arith, left, adds-long second third (commit ∷ []) committed, same)

      pub room_in_place : length third.emitted + length (changes_in_place third.kind changes) ≤ 124
      room_in_place = omega (arith, left_then)

      pub room_for_done : (fourth : Log) (h : Change → Emitted)
          → Adds third fourth (map h (changes_in_place third.kind changes)) → length fourth.emitted < 124
      room_for_done fourth h placed =
          omega (arith, left_then, adds-map third fourth h (changes_in_place third.kind changes) placed)
