use Rattle.std.proofs.lemmas.Str.{IsUtf8-from_is_utf8}
use Rattle.elsa_lock_free_map.specs.Names.{text_of}
use Rattle.elsa_lock_free_map.proofs.name_bytes.Name.as_str.Goals as goal

pub from_utf8_unchecked-requires : goal.from_utf8_unchecked-requires
from_utf8_unchecked-requires c = IsUtf8-from_is_utf8 (text_of c.args.self.now) c.args.self.now.utf8
