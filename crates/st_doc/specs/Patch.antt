-- The patches of a delta, after DIF Sidetree v1.0.0, "Standard Patch Actions"; the rules, and the patches on
-- names, are this project's own. Each is an object with exactly `action` and the member that this action needs.
use Rattle.std.specs.List.{list_all}
use Rattle.std.specs.Prelude.{ℕ, ◌&&◌, List, map, codes, if◌then◌else◌, bytes_eq, Option, Some, None, option_and_then, not, ◌++◌, filter, unwrap_or, find}
use Rattle.std.specs.Result.{result_ok}
use Rattle.st_base.specs.Lists.{each_of}
use Rattle.st_base.specs.Options.{◌>>=◌, ◌>>◌}
use Rattle.st_plain.specs.Objects.{list_in, text_in}
use Rattle.st_plain.specs.Plain.{Plain}
use Rattle.st_plain.specs.Shapes.{both_members, text_at}
use Rattle.st_canon.specs.View.{plain}
use Rattle.st_params.specs.ParamsValue.{ParamsValue}
use Rattle.st_jsonpatch.specs.AllStepped.{all_stepped}
use Rattle.st_jsonpatch.specs.Step.{PlainStep, plain_step, step_of}
use Rattle.st_doc.specs.Alike.{none_twice, is_among}
use Rattle.st_doc.specs.Document.{PlainDocument, document_of, may_have_names, plain_document, document_json, if_document, id_of, is_id, is_key, is_name, is_service}
use Rattle.st_doc.specs.declared.action.Action.{Action}
use Rattle.st_doc.specs.declared.action.Action.TheVariants as action
use Rattle.st_doc.specs.declared.patch.Patch.{Patch}
use Rattle.st_doc.specs.declared.patch.Patch.TheVariants.{AddKeys, RemoveKeys, AddServices, RemoveServices, Replace, Steps, AddNames, RemoveNames}

-- a patch over plain values
pub data PlainPatch : Type 0 where
  add_keys : List Plain → PlainPatch
  remove_keys : List (List ℕ) → PlainPatch
  add_services : List Plain → PlainPatch
  remove_services : List (List ℕ) → PlainPatch
  replace : PlainDocument → PlainPatch
  steps : List PlainStep → PlainPatch
  add_names : List (List ℕ) → PlainPatch
  remove_names : List (List ℕ) → PlainPatch

-- the plain patch of a `Patch`
abbrev pub plain_patch : Patch → PlainPatch
plain_patch (AddKeys keys) = add_keys (map plain keys)
plain_patch (RemoveKeys ids) = remove_keys ids
plain_patch (AddServices services) = add_services (map plain services)
plain_patch (RemoveServices ids) = remove_services ids
plain_patch (Replace document) = replace (plain_document document)
plain_patch (Steps list) = steps (map plain_step list)
plain_patch (AddNames names) = add_names names
plain_patch (RemoveNames names) = remove_names names

-- ---- the contents of a patch

-- the value of the only member besides `action`
abbrev pub beside_action : List ℕ → Plain → Option Plain
beside_action name patch = do
  both ← both_members (codes "action") name (Some patch)
  Some both.1

-- the values of the list in the member of this name
abbrev pub values_at : List ℕ → Plain → Option (List Plain)
values_at name patch = option_and_then list_in (beside_action name patch)

-- the ids that a patch lists
abbrev pub ids_in : Plain → Option (List (List ℕ))
ids_in patch = do
  values ← values_at (codes "ids") patch
  ids ← each_of text_in values
  list_all is_id ids
  Some ids

-- the names that a patch lists
abbrev pub names_in : Plain → Option (List (List ℕ))
names_in patch = do
  values ← values_at (codes "uris") patch
  names ← each_of text_in values
  list_all is_name names
  Some names

-- ---- the rows

-- `add-public-keys`: keys, none with the id of another
abbrev pub add_keys_of : Plain → Option PlainPatch
add_keys_of patch = do
  keys ← values_at (codes "publicKeys") patch
  list_all is_key keys
  none_twice (map id_of keys)
  Some (add_keys keys)

-- `remove-public-keys`: the ids of keys
abbrev pub remove_keys_of : Plain → Option PlainPatch
remove_keys_of patch = do
  ids ← ids_in patch
  Some (remove_keys ids)

-- `add-services`: services, none with the id of another
abbrev pub add_services_of : Plain → Option PlainPatch
add_services_of patch = do
  services ← values_at (codes "services") patch
  list_all is_service services
  none_twice (map id_of services)
  Some (add_services services)

-- `remove-services`: the ids of services
abbrev pub remove_services_of : Plain → Option PlainPatch
remove_services_of patch = do
  ids ← ids_in patch
  Some (remove_services ids)

-- `replace`: a whole document
abbrev pub replace_of : ParamsValue → Plain → Option PlainPatch
replace_of limits patch = do
  value ← beside_action (codes "document") patch
  document ← result_ok (document_of limits value)
  Some (replace document)

-- `ietf-json-patch`: steps of RFC 6902
abbrev pub steps_of : Plain → Option PlainPatch
steps_of patch = do
  values ← values_at (codes "patches") patch
  list ← each_of (λ value. result_ok (step_of value)) values
  Some (steps list)

-- `add-also-known-as`: names, all different
abbrev pub add_names_of : Plain → Option PlainPatch
add_names_of patch = do
  names ← names_in patch
  none_twice names
  Some (add_names names)

-- `remove-also-known-as`: names
abbrev pub remove_names_of : Plain → Option PlainPatch
remove_names_of patch = do
  names ← names_in patch
  Some (remove_names names)

-- ---- by the action

-- the action of this name; only version 2 has the last two
abbrev pub action_named : ℕ → List ℕ → Option Action
action_named version name =
    if bytes_eq name (codes "add-public-keys") then Some action.AddKeys else
    if bytes_eq name (codes "remove-public-keys") then Some action.RemoveKeys else
    if bytes_eq name (codes "add-services") then Some action.AddServices else
    if bytes_eq name (codes "remove-services") then Some action.RemoveServices else
    if bytes_eq name (codes "replace") then Some action.Replace else
    if bytes_eq name (codes "ietf-json-patch") then Some action.Steps else
    if bytes_eq name (codes "add-also-known-as") && may_have_names version then Some action.AddNames else
    if bytes_eq name (codes "remove-also-known-as") && may_have_names version then Some action.RemoveNames else
    None

-- the action that a value names
abbrev pub action_of : ℕ → Plain → Option Action
action_of version value = option_and_then (action_named version) (text_at (codes "action") (Some value))

-- the patch of a value with this action
abbrev pub patch_by : ParamsValue → Action → Plain → Option PlainPatch
patch_by limits action.AddKeys patch = add_keys_of patch
patch_by limits action.RemoveKeys patch = remove_keys_of patch
patch_by limits action.AddServices patch = add_services_of patch
patch_by limits action.RemoveServices patch = remove_services_of patch
patch_by limits action.Replace patch = replace_of limits patch
patch_by limits action.Steps patch = steps_of patch
patch_by limits action.AddNames patch = add_names_of patch
patch_by limits action.RemoveNames patch = remove_names_of patch

-- The patch of a value.
unfoldable pub patch_of : ParamsValue → Plain → Option PlainPatch
patch_of limits value = do
  action ← action_of limits.version value
  patch_by limits action value

-- ---- A document's lists after adding and removing.

-- the entry of this id
abbrev pub entry_of : List ℕ → List Plain → Option Plain
entry_of id entries = find (λ entry. bytes_eq (id_of entry) id) entries

-- each new entry replaces the entry of its id in its place, or is appended
unfoldable pub added : List Plain → List Plain → List Plain
added new entries =
    map (λ entry. unwrap_or (entry_of (id_of entry) new) entry) entries
    ++ filter (λ entry. not (is_among (map id_of entries) (id_of entry))) new

-- each entry with one of the ids is removed
unfoldable pub removed : List (List ℕ) → List Plain → List Plain
removed ids entries = filter (λ entry. not (is_among ids (id_of entry))) entries

-- each name that is not there is appended; one that is there keeps its place
unfoldable pub added_names : List (List ℕ) → List (List ℕ) → List (List ℕ)
added_names new names = names ++ filter (λ name. not (is_among names name)) new

-- each of these names is removed
unfoldable pub removed_names : List (List ℕ) → List (List ℕ) → List (List ℕ)
removed_names gone names = filter (λ name. not (is_among gone name)) names

-- ---- The document after one patch.

-- the steps applied to the document's JSON, if none fails and the result is a document
abbrev pub after_steps : ParamsValue → List PlainStep → PlainDocument → Option PlainDocument
after_steps limits list document = do
  value ← result_ok (all_stepped limits.max_depth limits.max_document 0 list (document_json document))
  result_ok (document_of limits value)

-- The document after a patch, if the patch does not fail.
abbrev pub after_patch : ParamsValue → PlainPatch → PlainDocument → Option PlainDocument
after_patch limits (add_keys keys) document = if_document limits (record document { keys = added keys document.keys })
after_patch limits (remove_keys ids) document = if_document limits (record document { keys = removed ids document.keys })
after_patch limits (add_services services) document =
    if_document limits (record document { services = added services document.services })
after_patch limits (remove_services ids) document =
    if_document limits (record document { services = removed ids document.services })
after_patch limits (replace new) document = if_document limits new
after_patch limits (steps list) document = after_steps limits list document
after_patch limits (add_names names) document =
    if_document limits (record document { names = added_names names document.names })
after_patch limits (remove_names names) document =
    if_document limits (record document { names = removed_names names document.names })
