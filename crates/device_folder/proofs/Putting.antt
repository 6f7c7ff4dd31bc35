-- What a crash may leave at each step of putting a file into a folder.
use Rattle.std.proofs.Common.{◌≡◌, ◌≢◌, inl, inr, ⊎_elim, ℕ, Bool, true, false, cond, Decides}
use Rattle.std.proofs.Common.{refl, sym, ◌∙◌, ap, subst}
use Rattle.std.specs.Prelude.{Option, None, Some, bytes_eq}
use Rattle.std.proofs.lemmas.Bool.{false≢true}
use Rattle.std.proofs.lemmas.Slice.Eq.{bytes_eq-Decides}
use Rattle.sector_device.specs.Image.{Image}
use Rattle.device_folder.specs.Folder.{Name, Left, FolderState, MayLeave, IsSound, Touches, Keeps}
use Rattle.device_folder.specs.Folder.{NoFile, Makes, Renames, Removes, IsFresh, IsUnchanged}
use Rattle.device_folder.specs.Crash.{LeavesOnly, LeftBut, OnlyTouches, touched_once}
use Rattle.device_folder.specs.Crash.{touches_joined, one_call, joined, weakened}
use Rattle.device_folder.specs.Put.{content_of, left_in, MayRead, IsSettled, IsSettledBut, Has}
use Rattle.device_folder.specs.Put.{IsWhole, IsInPlace, IsBefore, IsAfter, IsBeforeOrAfter}
use Rattle.device_folder.specs.Put.{StandsFor}
use Rattle.device_folder.specs.PutLaws.{as_before}
use Rattle.device_folder.proofs.Texts.{same_or_not}
use Rattle.device_folder.proofs.Steps.{some_same}

-- a rename, and then a sync that changes no name
pub renamed_then_synced : (from target : Name) (old mid new : FolderState) → IsSound old
    → IsSound mid → Touches (Renames from target old) NoFile old mid → IsUnchanged mid new
    → OnlyTouches (Renames from target old) NoFile old new
renamed_then_synced from target old mid new sound_old sound_mid rename sync =
    touches_joined (Renames from target old) Keeps NoFile NoFile old mid new
    (λ name to none. absurd none) (λ file none. none)
    (touched_once (Renames from target old) NoFile old mid sound_old rename)
    (touched_once Keeps NoFile mid new sound_mid sync)

-- a file was made, or wasn't, and nothing else happened
pub only_made : (name : Name) (old made : FolderState) → IsSound old
    → Touches (Makes name old) (IsFresh old) old made
    → OnlyTouches (Makes name old) (IsFresh old) old made
only_made name old made sound make = touched_once (Makes name old) (IsFresh old) old made sound make

-- a file was made, and given back or not
pub made_then_kept : (name : Name) (old made kept : FolderState) (first last : ℕ)
    → IsSound old → IsSound made → Touches (Makes name old) (IsFresh old) old made
    → IsFresh old first → last ≡ first → Touches Keeps (λ file. file ≡ last) made kept
    → OnlyTouches (Makes name old) (IsFresh old) old kept
made_then_kept name old made kept first last sound_old sound_made make fresh same keep =
    touches_joined (Makes name old) Keeps (IsFresh old) (λ file. file ≡ last) old made kept
    (λ other to none. absurd none)
    (λ file is. subst (IsFresh old) (sym (is ∙ same)) fresh)
    (only_made name old made sound_old make)
    (touched_once Keeps (λ file. file ≡ last) made kept sound_made keep)

-- a choice by whether two names are the same
chosen : (Q : Option ℕ → Type 0) (r : Bool) (same : Type 0) (a b : Option ℕ) → Decides r same
    → (same → Q a) → ((same → ⊥) → Q b) → Q (cond r a b)
chosen Q true same a b tells here there = here (tells.0 refl)
chosen Q false same a b tells here there = there (λ is. absurd (false≢true (tells.1 is)))

-- what a crash left, but for what one name stands for
with_name : Left → Name → Option ℕ → Left
with_name left at to = record {
  names = λ name. cond (bytes_eq name at) to (left.names name);
  files = left.files;
}

-- two that differ in one name alone
pub record DifferAt (at : Name) (a b : Left) : Type 0 where
  pub names : (name : Name) → name ≢ at → a.names name ≡ b.names name
  pub files : a.files ≡ b.files

differ_there : (left : Left) (at : Name) (to : Option ℕ) → DifferAt at left (with_name left at to)
unfolding with_name
differ_there left at to = record {
  names = λ name other. chosen (λ (x : Option ℕ). left.names name ≡ x) (bytes_eq name at)
      (name ≡ at) to (left.names name) (bytes_eq-Decides name at) (λ same. absurd (other same))
      (λ _. refl);
  files = refl;
}

-- A name was taken off its file, or wasn't. What held of each crash before holds afterwards, if it
-- holds where the name stands for nothing.
pub removed : (at : Name) (P : Left → Type 0) (old mid new : FolderState) → IsSound mid
    → LeavesOnly old mid P → Touches (Removes at) NoFile mid new
    → ((left was : Left) → DifferAt at left was → left.names at ≡ None → P was → P left)
    → LeavesOnly old new P
unfolding with_name
removed at P old mid new sound run call closed =
    joined old mid new P run (one_call mid new P sound call.time here after)
  where
    here : (left : Left) → MayLeave mid left → P left
    here left is = run.each left (sound.counts_now old.moment left run.later is)

    after : (left : Left) → MayLeave new left → P left
    after left is =
        let files : (file : ℕ) → mid.may_hold file (left.files file) =
        λ file. call.may_hold file (left.files file) (λ none. none) (is.files file) in
        let others : (name : Name) → name ≢ at → mid.may_name name (left.names name) =
        λ name other. ⊎_elim (λ may. may) (λ takes. absurd (other takes.0))
        (call.may_name name (left.names name) (is.names name)) in
        ⊎_elim
        (λ may. here left (record {
          names = λ name. ⊎_elim
              (λ same. subst (λ (n : Name). mid.may_name n (left.names n)) (sym same) may)
              (others name) (same_or_not name at);
          files = files;
        }))
        (λ takes. closed left (with_name left at (mid.names at))
        (differ_there left at (mid.names at)) takes.1
        (here (with_name left at (mid.names at)) (record {
          names = λ name. chosen (mid.may_name name) (bytes_eq name at) (name ≡ at) (mid.names at)
              (left.names name) (bytes_eq-Decides name at)
              (λ same. subst (λ (n : Name). mid.may_name n (mid.names at)) (sym same)
              (sound.names_stay at))
              (others name);
          files = files;
        })))
        (call.may_name at (left.names at) (is.names at))

module _ (unfinished own : Name) (P : Image → Type 0) (differ : unfinished ≢ own) where
  -- what one name stands for counts in no other one
  left_alike : (left was : Left) (at name : Name) → DifferAt at left was → name ≢ at
      → left_in left name ≡ left_in was name
  left_alike left was at name same other =
      ap (λ (files : ℕ → Image). content_of (left.names name) files) same.files
      ∙ ap (λ (to : Option ℕ). content_of to was.files) (same.names name other)

  -- so a name may be read as before
  read_before : (old : FolderState) (left was : Left) (at name : Name) → DifferAt at left was
      → name ≢ at → MayRead old name (left_in was name) → MayRead old name (left_in left name)
  read_before old left was at name same other =
      subst (MayRead old name) (sym (left_alike left was at name same other))

  -- the unfinished name counts for nothing
  aside_removed : (old : FolderState) (left was : Left) → DifferAt unfinished left was
      → left.names unfinished ≡ None → IsBeforeOrAfter unfinished own P old was
      → IsBeforeOrAfter unfinished own P old left
  aside_removed old left was same none (inl before) = inl (λ name other.
      read_before old left was unfinished name same other (before name other))
  aside_removed old left was same none (inr after) = inr (record {
    put = subst (Has P) (sym (left_alike left was unfinished own same (λ is. differ (sym is))))
        after.put;
    others = λ name other differs.
        read_before old left was unfinished name same other (after.others name other differs);
  })

  -- a name that stood for nothing stands for nothing again
  own_removed : (old : FolderState) → IsSound old → old.names own ≡ None → (left was : Left)
      → DifferAt own left was → left.names own ≡ None → IsBeforeOrAfter unfinished own P old was
      → IsBeforeOrAfter unfinished own P old left
  own_removed old sound free left was same none is = inl (λ name other.
      elim (same_or_not name own) [
        | inl is_own ↦ subst (λ (n : Name). MayRead old n (left_in left n)) (sym is_own)
            (subst (λ (to : Option ℕ). MayRead old own (content_of to left.files)) (sym none)
            (subst (old.may_name own) free (sound.names_stay own)))
        | inr differs ↦
            read_before old left was own name same differs (other_name name other differs is)
      ])
    where
      other_name : (name : Name) → name ≢ unfinished → name ≢ own
          → IsBeforeOrAfter unfinished own P old was → MayRead old name (left_in was name)
      other_name name other differs (inl before) = before name other
      other_name name other differs (inr after) = after.others name other differs

  pub unfinished_removed : (old mid new : FolderState) → IsSound mid
      → LeavesOnly old mid (IsBeforeOrAfter unfinished own P old)
      → Touches (Removes unfinished) NoFile mid new
      → LeavesOnly old new (IsBeforeOrAfter unfinished own P old)
  unfinished_removed old mid new sound run call =
      removed unfinished (IsBeforeOrAfter unfinished own P old) old mid new sound run call
      (aside_removed old)

  pub taken_back : (old mid new : FolderState) → IsSound old → IsSound mid → old.names own ≡ None
      → LeavesOnly old mid (IsBeforeOrAfter unfinished own P old)
      → Touches (Removes own) NoFile mid new
      → LeavesOnly old new (IsBeforeOrAfter unfinished own P old)
  taken_back old mid new sound_old sound free run call =
      removed own (IsBeforeOrAfter unfinished own P old) old mid new sound run call
      (own_removed old sound_old free)

  -- a call that changes nothing takes no name off its file
  pub then_nothing : (old mid new : FolderState) → IsSound mid
      → LeavesOnly old mid (IsBeforeOrAfter unfinished own P old) → IsUnchanged mid new
      → LeavesOnly old new (IsBeforeOrAfter unfinished own P old)
  then_nothing old mid new sound run call = unfinished_removed old mid new sound run (record {
    time = call.time;
    names = λ name. ⊎_elim (λ same. inl same) (λ none. absurd none) (call.names name);
    may_name = λ name to may. inl (⊎_elim (λ was. was) (λ none. absurd none)
        (call.may_name name to may));
    reads = call.reads;
    may_hold = call.may_hold;
    lent = call.lent;
  })

  module _ (old : FolderState) (sound : IsSound old) where
    -- while the file has the unfinished name alone
    pub aside : (left : Left) → LeftBut (Makes unfinished old) (IsFresh old) old left
        → IsBeforeOrAfter unfinished own P old left
    aside left is = inl (λ name other. ⊎_elim
        (λ may. as_before old left name may is.files) (λ makes. absurd (other makes.same))
        (is.names name))

    -- the unfinished name is cleared
    pub cleared : (new : FolderState) → Touches (Removes unfinished) NoFile old new
        → LeavesOnly old new (IsBeforeOrAfter unfinished own P old)
    cleared new call = one_call old new (IsBeforeOrAfter unfinished own P old) sound call.time
        (λ left is. inl (λ name other. as_before old left name (is.names name)
        (λ file known. is.files file)))
        (λ left is. inl (λ name other. as_before old left name
        (⊎_elim (λ may. may) (λ takes. absurd (other takes.0))
        (call.may_name name (left.names name) (is.names name)))
        (λ file known. call.may_hold file (left.files file) (λ none. none) (is.files file))))

    -- what may be read under each other name then might have been before
    read_then : (new : FolderState) → Touches (Removes unfinished) NoFile old new
        → (name : Name) → name ≢ unfinished → (content : Option Image)
        → MayRead new name content → MayRead old name content
    read_then new call name other None may =
        ⊎_elim (λ was. was) (λ takes. absurd (other takes.0)) (call.may_name name None may)
    read_then new call name other (Some image) (file, may, holds) = (
      file,
      ⊎_elim (λ was. was) (λ takes. absurd (other takes.0)) (call.may_name name (Some file) may),
      call.may_hold file image (λ none. none) holds,
    )

    pub after_clearing : (new : FolderState) → Touches (Removes unfinished) NoFile old new
        → (left : Left) → IsAfter unfinished own P new left → IsAfter unfinished own P old left
    after_clearing new call left after = record {
      put = after.put;
      others = λ name other differs.
          read_then new call name other (left_in left name) (after.others name other differs);
    }

    pub before_clearing : (new : FolderState) → Touches (Removes unfinished) NoFile old new
        → (left : Left) → IsBeforeOrAfter unfinished own P new left
        → IsBeforeOrAfter unfinished own P old left
    before_clearing new call left (inl before) = inl (λ name other.
        read_then new call name other (left_in left name) (before name other))
    before_clearing new call left (inr after) = inr (after_clearing new call left after)

    module _ (mid : FolderState) (made : OnlyTouches (Makes unfinished old) (IsFresh old) old mid)
        (whole : IsWhole unfinished P old mid) where
      -- what a crash may leave of the files there were
      old_files : (left : Left) → LeftBut (Renames unfinished own mid) NoFile mid left
          → (file : ℕ) → (IsFresh old file → ⊥) → old.may_hold file (left.files file)
      old_files left is file known =
          made.may_hold file (left.files file) known (is.files file (λ none. none))

      -- what it may leave each name but the unfinished one standing for
      old_name : (name : Name) (to : Option ℕ) → name ≢ unfinished → mid.may_name name to
          → old.may_name name to
      old_name name to other may =
          ⊎_elim (λ was. was) (λ makes. absurd (other makes.same)) (made.may_name name to may)

      -- each name but the two
      others : (left : Left) → LeftBut (Renames unfinished own mid) NoFile mid left
          → (name : Name) → name ≢ unfinished → name ≢ own → MayRead old name (left_in left name)
      others left is name other differs = as_before old left name
          (⊎_elim (old_name name (left.names name) other)
          (⊎_elim (λ named. absurd (differs named.0)) (λ free. absurd (other free.0)))
          (is.names name))
          (old_files left is)

      after_if : (left : Left) → LeftBut (Renames unfinished own mid) NoFile mid left
          → left.names own ≡ Some whole.file → IsAfter unfinished own P old left
      after_if left is named = record {
        put = subst (λ (to : Option ℕ). Has P (content_of to left.files)) (sym named)
            (subst P
            (sym (whole.durable (left.files whole.file) (is.files whole.file (λ none. none))))
            whole.has);
        others = others left is;
      }

      -- from the renaming on
      renamed : (left : Left) → LeftBut (Renames unfinished own mid) NoFile mid left
          → IsBeforeOrAfter unfinished own P old left
      renamed left is = ⊎_elim
          (λ may. inl (before (old_name own (left.names own) (λ same. differ (sym same)) may)))
          (⊎_elim (λ named. inr (after_if left is (named.1 ∙ whole.named)))
          (λ free. absurd (differ (sym free.0))))
          (is.names own)
        where
          before : old.may_name own (left.names own) → IsBefore unfinished old left
          before may name other = elim (same_or_not name own) [
            | inl same ↦ subst (λ (n : Name). MayRead old n (left_in left n)) (sym same)
                (as_before old left own may (old_files left is))
            | inr differs ↦ others left is name other differs
          ]

      -- the whole run
      pub any_moment : (new : FolderState)
          → OnlyTouches (Renames unfinished own mid) NoFile mid new
          → LeavesOnly old new (IsBeforeOrAfter unfinished own P old)
      any_moment new rename = joined old mid new (IsBeforeOrAfter unfinished own P old)
          (weakened old mid (LeftBut (Makes unfinished old) (IsFresh old) old)
          (IsBeforeOrAfter unfinished own P old) aside made.crash)
          (weakened mid new (LeftBut (Renames unfinished own mid) NoFile mid)
          (IsBeforeOrAfter unfinished own P old) renamed rename.crash)

      module _ (new : FolderState)
          (rename : OnlyTouches (Renames unfinished own mid) NoFile mid new)
          (in_place : IsInPlace unfinished own mid new) where
        own_is : new.names own ≡ Some whole.file
        own_is = in_place.named ∙ whole.named

        -- what a crash may leave from now on
        left_now : (left : Left) → MayLeave new left
            → LeftBut (Renames unfinished own mid) NoFile mid left
        left_now left is = record {
          names = λ name. rename.may_name name (left.names name) (is.names name);
          files = λ file not. rename.may_hold file (left.files file) not (is.files file);
        }

        pub stands : StandsFor unfinished own P old new
        stands = record {
          reads = subst (λ (to : Option ℕ). Has P (content_of to new.reads)) (sym own_is)
              (subst P (sym (rename.reads whole.file (λ none. none))) whole.has);
          durable = λ left is. after_if left (left_now left is)
              (in_place.durable own (left.names own) (is.names own) ∙ own_is);
        }

        module _ (settled : IsSettledBut unfinished old) where
          -- a file that is read as it may be left
          steady : (file : ℕ) (image : Image) → (IsFresh old file → ⊥)
              → ((image : Image) → old.may_hold file image → image ≡ old.reads file)
              → new.may_hold file image → image ≡ new.reads file
          steady file image known was may =
              was image (made.may_hold file image known
              (rename.may_hold file image (λ none. none) may))
              ∙ sym (rename.reads file (λ none. none) ∙ made.reads file known)

          -- a name but the two stands for what it stood for
          same_other : (name : Name) → name ≢ unfinished → name ≢ own
              → new.names name ≡ old.names name
          same_other name other differs =
              ⊎_elim (λ same. same)
              (⊎_elim (λ named. absurd (differs named.0)) (λ free. absurd (other free.0)))
              (rename.names name)
              ∙ ⊎_elim (λ same. same) (λ makes. absurd (other makes.same)) (made.names name)

          pub all_settled : IsSettled new
          all_settled = record {
            names = in_place.durable;
            files = λ name file image is may. elim (same_or_not name unfinished) [
              | inl same ↦ absurd (none_is_some file
                  (sym (in_place.free) ∙ ap new.names (sym same) ∙ is))
              | inr other ↦ elim (same_or_not name own) [
                | inl same ↦ own_settled file image
                    (sym (own_is) ∙ ap new.names (sym same) ∙ is) may
                | inr differs ↦ other_settled name file image other differs is may
              ]
            ];
          }
            where
              none_is_some : (file : ℕ) → ◌≡◌ {A = Option ℕ} None (Some file) → ⊥
              none_is_some file same = subst IsNone same tt
                where
                  IsNone : Option ℕ → Type 0
                  IsNone None = Unit {0}
                  IsNone (Some x) = ⊥

              own_settled : (file : ℕ) (image : Image)
                  → ◌≡◌ {A = Option ℕ} (Some whole.file) (Some file)
                  → new.may_hold file image → image ≡ new.reads file
              own_settled file image is may =
                  subst (λ (f : ℕ). new.may_hold f image → image ≡ new.reads f)
                  (some_same whole.file file is)
                  (λ may. whole.durable image
                  (rename.may_hold whole.file image (λ none. none) may)
                  ∙ sym (rename.reads whole.file (λ none. none))) may

              other_settled : (name : Name) (file : ℕ) (image : Image) → name ≢ unfinished
                  → name ≢ own → new.names name ≡ Some file → new.may_hold file image
                  → image ≡ new.reads file
              other_settled name file image other differs is may =
                  let was : old.names name ≡ Some file = sym (same_other name other differs) ∙ is in
                  steady file image
                  (λ fresh. fresh.nameless name
                  (subst (λ (to : Option ℕ). old.may_name name to) was (sound.names_stay name)))
                  (λ left held. settled.files name file left other was held) may

  -- a run that begins by clearing the unfinished name
  module _ (old start : FolderState) (sound : IsSound old) (sound_start : IsSound start)
      (clear : Touches (Removes unfinished) NoFile old start) where
    -- a run since then
    since_cleared : (new : FolderState)
        → LeavesOnly start new (IsBeforeOrAfter unfinished own P start)
        → LeavesOnly old new (IsBeforeOrAfter unfinished own P old)
    since_cleared new run = joined old start new (IsBeforeOrAfter unfinished own P old)
        (cleared old sound start clear)
        (weakened start new (IsBeforeOrAfter unfinished own P start)
        (IsBeforeOrAfter unfinished own P old) (before_clearing old sound start clear) run)

    -- no file was made, or not whole, and its name was cleared
    pub not_made : (mid new : FolderState) → IsSound mid
        → OnlyTouches (Makes unfinished start) (IsFresh start) start mid
        → Touches (Removes unfinished) NoFile mid new
        → LeavesOnly old new (IsBeforeOrAfter unfinished own P old)
    not_made mid new sound_mid made again = unfinished_removed old mid new sound_mid
        (since_cleared mid
        (weakened start mid (LeftBut (Makes unfinished start) (IsFresh start) start)
        (IsBeforeOrAfter unfinished own P start) (aside start sound_start) made.crash))
        again

    module _ (mid : FolderState)
        (made : OnlyTouches (Makes unfinished start) (IsFresh start) start mid)
        (whole : IsWhole unfinished P start mid) (new : FolderState)
        (rename : OnlyTouches (Renames unfinished own mid) NoFile mid new) where
      -- it was given its name, or wasn't
      pub tried : LeavesOnly old new (IsBeforeOrAfter unfinished own P old)
      tried = since_cleared new (any_moment start sound_start mid made whole new rename)

      -- it has its name
      pub put_whole : IsInPlace unfinished own mid new → StandsFor unfinished own P old new
      put_whole in_place =
          let now = stands start sound_start mid made whole new rename in_place in
          record {
            reads = now.reads;
            durable = λ left is. after_clearing old sound start clear left (now.durable left is);
          }

      -- and nothing else is pending, if nothing else was
      pub put_settled : IsSettledBut unfinished old → IsInPlace unfinished own mid new
          → IsSettled new
      put_settled settled in_place = all_settled start sound_start mid made whole new rename
          in_place (still_settled settled)
        where
          same_name : (name : Name) → name ≢ unfinished → start.names name ≡ old.names name
          same_name name other = ⊎_elim (λ same. same) (λ takes. absurd (other takes.0))
              (clear.names name)

          still_settled : IsSettledBut unfinished old → IsSettledBut unfinished start
          still_settled settled = record {
            names = λ name to other may.
                settled.names name to other
                (⊎_elim (λ was. was) (λ takes. absurd (other takes.0))
                (clear.may_name name to may))
                ∙ sym (same_name name other);
            files = λ name file image other is may.
                settled.files name file image other (sym (same_name name other) ∙ is)
                (clear.may_hold file image (λ none. none) may)
                ∙ sym (clear.reads file (λ none. none));
          }
