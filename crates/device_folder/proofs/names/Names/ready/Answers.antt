use Rattle.std.proofs.Common.{◌∙◌, ap, sym, refl, inl, ℕ, List, [], ◌∷◌, ◌++◌, subst}
use Rattle.std.specs.Prelude.{Option, None, is_ok, string_bytes}
use Rattle.device_folder.specs.Folder.{Keeps}
use Rattle.device_folder.specs.Names.{has_name, IsReady, Changes}
use Rattle.device_folder.specs.declared.names.Entry.{Entry}
use Rattle.device_folder.proofs.Entries.{entry_changes, each_ready, ready_is, remembered}
use Rattle.device_folder.proofs.Entries.{still_remembers, now_remembers, on_ok, taken, not_some}
use Rattle.device_folder.proofs.Entries.{pushed_names, pushed_ready, pushed_is_ready, none_found}
use Rattle.device_folder.proofs.names.Names.ready.Goals as goal

pub returns-in-Some-clause-same : goal.returns-in-Some-clause-same
returns-in-Some-clause-same c =
    let old = c.index_mut.result.now in
    let new = c.remember.new.self in
    entry_changes c.args.self.now.entries.items c.args.name.now c.in-Some.place old new
    (sym c.in-Some.ensures) (sym c.index_mut.ensures.value)
    (ap string_bytes c.remember.ensures.name)
    Keeps (inl c.remember.ensures.file)
    (λ to may. inl (remembered (is_ok c.remember.result) old new c.remember.ensures.file
    c.remember.ensures.earlier to may))

pub returns-in-Some-clause-ready : goal.returns-in-Some-clause-ready
returns-in-Some-clause-ready c =
    let old = c.index_mut.result.now in
    let new = c.remember.new.self in
    on_ok c.remember.result _ (λ ok.
    ready_is c.args.self.now.entries.items c.args.name.now c.in-Some.place old new
    (sym c.in-Some.ensures) (sym c.index_mut.ensures.value)
    (ap string_bytes c.remember.ensures.name)
    (now_remembers (is_ok c.remember.result) old new c.remember.ensures.file
    c.remember.ensures.earlier ok))

pub returns-in-Some-clause-others : goal.returns-in-Some-clause-others
returns-in-Some-clause-others c other ready =
    let old = c.index_mut.result.now in
    let new = c.remember.new.self in
    each_ready c.args.self.now.entries.items c.args.name.now c.in-Some.place old new
    (sym c.in-Some.ensures) (sym c.index_mut.ensures.value)
    (ap string_bytes c.remember.ensures.name)
    (still_remembers (is_ok c.remember.result) old new c.remember.ensures.file
    c.remember.ensures.earlier) other ready

-- the entries afterwards, the last one's values, and that the name had none
pub returns-clause-same : goal.returns-clause-same
returns-clause-same c =
    let entries = c.args.self.now.entries.items in
    subst (Changes Keeps entries)
    (sym (taken (is_ok c.push-2.result) _ _ _ c.push-2.ensures.items
    c.if-is_err.ensures.negation))
    (pushed_names entries _ refl
    (c.in_ok-push.ensures.items
    ∙ ap (λ (xs : List (Option ℕ)). xs ++ None ∷ []) c.new-earlier.ensures.items))

pub returns-clause-ready : goal.returns-clause-ready
returns-clause-ready c =
    let entries = c.args.self.now.entries.items in
    subst (λ (all : List Entry). IsReady all c.args.name.now)
    (sym (taken (is_ok c.push-2.result) _ _ _ c.push-2.ensures.items
    c.if-is_err.ensures.negation))
    (pushed_is_ready entries _ refl
    (c.in_ok-push.ensures.items
    ∙ ap (λ (xs : List (Option ℕ)). xs ++ None ∷ []) c.new-earlier.ensures.items)
    c.args.name.now c.in_ok-name.ensures.ok
    (none_found (has_name c.args.name.now) entries
    (sym c.place.ensures ∙ not_some c.place.result c.in_default.not-Some)))

pub returns-clause-others : goal.returns-clause-others
returns-clause-others c other ready =
    let entries = c.args.self.now.entries.items in
    subst (λ (all : List Entry). IsReady all other)
    (sym (taken (is_ok c.push-2.result) _ _ _ c.push-2.ensures.items
    c.if-is_err.ensures.negation))
    (pushed_ready entries _ refl
    (c.in_ok-push.ensures.items
    ∙ ap (λ (xs : List (Option ℕ)). xs ++ None ∷ []) c.new-earlier.ensures.items) other ready)
