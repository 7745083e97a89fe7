mod RecordBytes
mod WatchBytes
mod ScriptRuns
mod Records
