use Rattle.st_doc.specs.declared.patch.Found.{Found}
use Rattle.st_doc.specs.declared.patch.Found.TheVariants.{Keys, Services, Whole}
use Rattle.st_doc.specs.Patch.{PlainPatch, add_keys, add_services, plain_patch}

-- the same for a patch that was read
abbrev pub found_patch : Found → PlainPatch
found_patch (Keys keys) = add_keys keys
found_patch (Services services) = add_services services
found_patch (Whole patch) = plain_patch patch
