-- What a script that has been read says of its header.
use Rattle.records.specs.declared.bytes.Header.{Header}
use Rattle.script.specs.declared.script.Script.{Script}

abbrev pub header_of : Script → Header
header_of s = record { records = s.over.n; text = s.over.t }
